use Rattle.area_parts.proofs.Classes.{zeroed}
use Rattle.area_parts.proofs.put_zeros.Goals as goal

pub returns : goal.returns
returns c = zeroed _ _ _ c.requires (c.fill.ensures.after (λ y e. e))
