use Rattle.saturation.proofs.Memory.{relation_small, rows_small}
use Rattle.search.proofs.tree.Search.before_rows.Goals as goal

pub predecessor_rows-requires : goal.predecessor_rows-requires
predecessor_rows-requires g c =
    let room = c.args.self.now.walk.roomy in
    (relation_small g.row.N g.row.W g.row.T room.wide room.narrow room.short, rows_small g.row.N g.row.W g.row.T room.wide room.narrow)
