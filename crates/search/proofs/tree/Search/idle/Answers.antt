use Rattle.search.proofs.Memory.{walk_small}
use Rattle.search.proofs.tree.Search.idle.Goals as goal

pub idle-requires : goal.idle-requires
idle-requires g c = (walk_small c.requires, c.requires)
