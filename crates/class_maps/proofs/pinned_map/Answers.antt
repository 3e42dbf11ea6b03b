use Rattle.ranked_maps.proofs.Mapping.{pinned_mapped}
use Rattle.class_maps.proofs.pinned_map.Goals as goal

pub returns : goal.returns
returns c = pinned_mapped c.listed_map.ensures
