use mathlib.Core.Path.{◌≡◌, refl}
use borrow.Author.Rules.{rules}
use native.Mathlib.Omega.{arith}
use Rattle.report_lines.proofs.Writing.{put_length}
use Rattle.report_lines.proofs.Lines.{Lining, lining_all, lining_line, lining_byte, lining_end, lining_near}
use Rattle.report_lines.proofs.put_lines.Goals as goal
use Rattle.report_lines.proofs.put_lines.Goals.{Joined-room-eq0, then-room-eq0, else-room-eq0}

pub loop-b-init : goal.loop-b-init
loop-b-init c = lining_all

pub put_one-p-requires : goal.put_one-p-requires
put_one-p-requires c = (omega (arith, lining_near c.loop-b.invariant), omega arith)

-- the line has room for the next byte
ready : (c : Joined-room-eq0) → Lining c.args.bytes.now c.args.text.now c.args.at c.if-room-eq0.text c.if-room-eq0.p c.if-room-eq0.room c.loop-b.b-index × (c.if-room-eq0.room ≡ 0 → ⊥)
ready c =
    elim c.if-room-eq0.branch [
      | then-room-eq0 w ↦ rw (w.p-is, w.text-is, w.room-is) (lining_line c.loop-b.invariant c.loop-b-test.true w.if-room-eq0.true w.put_one-p.ensures, λ e. omega arith)
      | else-room-eq0 w ↦ rw (w.p-is, w.text-is, w.room-is) (c.loop-b.invariant, w.if-room-eq0.false)
    ]

pub put_hex-p-requires : goal.put_hex-p-requires
put_hex-p-requires c = (omega (arith, lining_near (ready (goal.at.put_hex-p-requires c).Joined-room-eq0).0), search rules)

pub loop-b-preserved : goal.loop-b-preserved
loop-b-preserved c =
    let r = ready (goal.at.loop-b-preserved c).Joined-room-eq0 in
    lining_byte r.0 c.loop-b-test.true r.1 refl c.put_hex-p.ensures

pub put_one-requires : goal.put_one-requires
put_one-requires c = (omega (arith, lining_near c.loop-b.invariant), omega arith)

pub shape_of-text : goal.shape_of-text
shape_of-text c = put_length (lining_end c.loop-b.invariant c.loop-b-test.false c.put_one.ensures)

pub returns : goal.returns
returns c = lining_end c.loop-b.invariant c.loop-b-test.false c.put_one.ensures
