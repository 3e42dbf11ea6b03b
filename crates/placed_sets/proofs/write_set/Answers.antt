use Rattle.placed_sets.specs.Sorts.{rules_sound, ligatures_sound, pairs_sound, rules_known, rules_told, ligatures_known, ligatures_told, pairs_known, pairs_places, rules_leave, ligatures_leave, pairs_leave}
use Rattle.placed_sets.proofs.write_set.Goals as goal

pub write_rules-requires : goal.write_rules-requires
write_rules-requires c =
    (rules_sound _ _ c.in-Rules.is c.requires.0, c.requires.1, c.requires.2, c.requires.3, rules_known c.in-Rules.is c.requires.4)

pub write_ligatures-requires : goal.write_ligatures-requires
write_ligatures-requires c =
    (ligatures_sound _ _ c.in-Ligatures.is c.requires.0, c.requires.1, c.requires.2.input, c.requires.3, ligatures_known c.in-Ligatures.is c.requires.4)

pub write_pairs-requires : goal.write_pairs-requires
write_pairs-requires c =
    (pairs_sound _ _ c.in-Pairs.is (pairs_known c.in-Pairs.is c.requires.4).0 c.requires.0, pairs_places c.in-Pairs.is c.requires.4, c.requires.2.input, c.requires.3)

pub returns-in-Rules : goal.returns-in-Rules
returns-in-Rules c =
    (rules_leave _ _ _ c.in-Rules.is c.write_rules.ensures.0, rules_told c.in-Rules.is c.write_rules.ensures.1)

pub returns-in-Ligatures : goal.returns-in-Ligatures
returns-in-Ligatures c =
    (ligatures_leave _ _ _ c.in-Ligatures.is c.write_ligatures.ensures.0, ligatures_told c.in-Ligatures.is c.write_ligatures.ensures.1)

pub returns-in-Pairs : goal.returns-in-Pairs
returns-in-Pairs c =
    let t = pairs_known c.in-Pairs.is c.requires.4 in
    (pairs_leave _ _ _ _ c.in-Pairs.is t.0 t.1 c.write_pairs.ensures, c.requires.4)
