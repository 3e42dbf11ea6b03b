use Rattle.std.proofs.Common.{sym, ◌∙◌}
use Rattle.std.proofs.Common.{◌≡◌, None, arith, rules}
use Rattle.meaning.specs.Fault.{fault}
use Rattle.laws.specs.SoundGood.{bytes_all}
use Rattle.refusals.proofs.Tested.{Tested, at_kind, at_form, at_layout, at_glyphs, at_lookups, at_long, at_format, at_malformed, at_device, at_past, at_end}
use Rattle.refusals.proofs.judge.Goals as goal
use Rattle.refusals.proofs.judge.Goals.{Else-other_format, In_default}

-- what is known past the tests before the check
past_tests : (c : Else-other_format) → Tested c.args.marks.kind c.args.marks.form c.args.marks.layout c.args.source.now c.args.glyphs.now c.args.lookups.now
past_tests c =
    record {
      good_kind_lem = search rules;
      good_form_lem = search rules;
      good_layout = search rules;
      good_glyphs_lem = record {
        form_good = search rules;
        good = search rules;
        bytes = bytes_all c.args.glyphs.now (λ i. omega (arith, c.type_inv.glyphs i));
      };
      good_lookups_lem = search rules;
      short = search rules;
      format = search rules;
    }

-- the check found no fault
no_fault : (c : In_default) → fault c.args.marks.kind c.args.source.now ≡ None
no_fault c = sym c.check.ensures ∙ c.in_default.is

pub returns-then-not-good_kind-clause-refused : goal.returns-then-not-good_kind-clause-refused
returns-then-not-good_kind-clause-refused c = search (rules, at_kind)

pub returns-then-not-good_form-clause-refused : goal.returns-then-not-good_form-clause-refused
returns-then-not-good_form-clause-refused c = search (rules, at_form)

pub returns-then-not-good_layout-clause-refused : goal.returns-then-not-good_layout-clause-refused
returns-then-not-good_layout-clause-refused c = search (rules, at_layout)

pub returns-then-not-good_glyphs-clause-refused : goal.returns-then-not-good_glyphs-clause-refused
returns-then-not-good_glyphs-clause-refused c = search (rules, at_glyphs)

pub returns-then-not-good_lookups-clause-refused : goal.returns-then-not-good_lookups-clause-refused
returns-then-not-good_lookups-clause-refused c = search (rules, at_lookups)

pub returns-then-too_long-clause-refused : goal.returns-then-too_long-clause-refused
returns-then-too_long-clause-refused c = search (rules, at_long)

pub returns-then-other_format-clause-refused : goal.returns-then-other_format-clause-refused
returns-then-other_format-clause-refused c = search (rules, at_format)

pub returns-in-Some-clause-refused : goal.returns-in-Some-clause-refused
returns-in-Some-clause-refused c =
    at_malformed _ _ _ _ _ _ (past_tests (goal.at.returns-in-Some-clause-refused c).Else-other_format) (sym c.check.ensures ∙ c.in-Some.is)

pub returns-then-pair_device-clause-refused : goal.returns-then-pair_device-clause-refused
returns-then-pair_device-clause-refused c =
    at_device _ _ _ _ _ _ (past_tests (goal.at.returns-then-pair_device-clause-refused c).Else-other_format) (no_fault (goal.at.returns-then-pair_device-clause-refused c).In_default) (search rules)

pub returns-then-not-records_within-clause-refused : goal.returns-then-not-records_within-clause-refused
returns-then-not-records_within-clause-refused c =
    at_past _ _ _ _ _ _ (past_tests (goal.at.returns-then-not-records_within-clause-refused c).Else-other_format) (no_fault (goal.at.returns-then-not-records_within-clause-refused c).In_default) (search rules) (search rules)

pub returns-clause-sound : goal.returns-clause-sound
returns-clause-sound c =
    at_end _ _ _ _ _ _ (past_tests (goal.at.returns-clause-sound c).Else-other_format) (no_fault (goal.at.returns-clause-sound c).In_default) (search rules) (search rules)
