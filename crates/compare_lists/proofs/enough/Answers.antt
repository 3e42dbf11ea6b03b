use mathlib.Core.Path.{sym}
use mathlib.Core.Bool.{true≢false}
use Rattle.compare_lists.proofs.enough.Goals as goal

pub returns-then-num-lt-NUM : goal.returns-then-num-lt-NUM
returns-then-num-lt-NUM c = record { codes = λ e. absurd (true≢false (sym e)); rest = λ e. absurd (true≢false (sym e)) }

pub returns-then-nums-lt-NUMS : goal.returns-then-nums-lt-NUMS
returns-then-nums-lt-NUMS c = record { codes = λ e. absurd (true≢false (sym e)); rest = λ e. absurd (true≢false (sym e)) }

pub returns-then-heads-lt-HEADS : goal.returns-then-heads-lt-HEADS
returns-then-heads-lt-HEADS c = record { codes = λ e. absurd (true≢false (sym e)); rest = λ e. absurd (true≢false (sym e)) }
