use Rattle.std.proofs.Common.{sym, ◌∙◌, rules}
use Rattle.laws.specs.FaultsLeft.{checking_all, checking_null, checking_end}
use Rattle.faults.specs.Reached.{lowest_part, lowest_passed}
use Rattle.gsubgpos.proofs.Marks.{marked_more}
use Rattle.gsubgpos.proofs.Members.{from_member, lowest_sound}
use Rattle.gsubgpos.proofs.check_members.Goals as goal
use Rattle.gsubgpos.proofs.check_members.Goals.{then-is_none, else-is_none}

pub loop-i-init : goal.loop-i-init
loop-i-init c = record { lowest = checking_all _ _ _ _ _; marked = c.requires.3 }

pub loop-i-preserved-then-offset-eq0 : goal.loop-i-preserved-then-offset-eq0
loop-i-preserved-then-offset-eq0 c =
    record {
      lowest = checking_null _ _ _ _ _ c.loop-i.invariant.lowest c.loop-i-test.true c.word_inside-offset.ensures.0 c.if-offset-eq0.true;
      marked = c.loop-i.invariant.marked;
    }

pub loop-i-preserved-then-has_bit : goal.loop-i-preserved-then-has_bit
loop-i-preserved-then-has_bit c =
    record {
      lowest = lowest_sound c.loop-i.invariant.lowest c.loop-i-test.true c.word_inside-offset.ensures.0 c.if-offset-eq0.false (c.loop-i.invariant.marked.known _ (sym c.has_bit.ensures ∙ c.if-has_bit.true));
      marked = c.loop-i.invariant.marked;
    }

pub loop-i-preserved-then-found_before : goal.loop-i-preserved-then-found_before
loop-i-preserved-then-found_before c =
    record {
      lowest = lowest_passed c.loop-i.invariant.lowest c.loop-i-test.true c.word_inside-offset.ensures.0 c.if-offset-eq0.false (from_member c.args.member c.args.src.now _) (sym c.found_before.ensures ∙ c.if-found_before.true);
      marked = c.loop-i.invariant.marked;
    }

pub loop-i-preserved : goal.loop-i-preserved
loop-i-preserved c =
    record {
      lowest = lowest_part c.loop-i.invariant.lowest c.loop-i-test.true c.word_inside-offset.ensures.0 c.if-offset-eq0.false c.check_member-found.ensures c.lowest-low.ensures;
      marked = elim c.if-is_none.branch [ then-is_none w ↦ rw w.marks-is (marked_more _ c.loop-i.invariant.marked (search rules) w.put_bit.ensures) | else-is_none w ↦ rw w.marks-is c.loop-i.invariant.marked ];
    }

pub returns : goal.returns
returns c = (checking_end _ _ _ _ _ c.loop-i.invariant.lowest c.loop-i-test.false, c.loop-i.invariant.marked)
