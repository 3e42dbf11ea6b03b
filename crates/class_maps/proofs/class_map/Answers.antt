use Rattle.ranked_maps.proofs.Mapping.{class_mapped}
use Rattle.class_maps.proofs.class_map.Goals as goal

pub returns : goal.returns
returns c = class_mapped c.listed_map.ensures
