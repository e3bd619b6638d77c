use Rattle.std.proofs.Common.{◌<◌, length, refl, sym, subst}
use Rattle.mn_paths.specs.Whole.{IsPath}
use Rattle.mn_paths.specs.declared.table.Path.{Path}
use Rattle.mn_paths.proofs.Kept.{visited, noted}
use Rattle.mn_paths.proofs.table.Table.visit_near.Goals as goal

pub returns-clause-visits : goal.returns-clause-visits
returns-clause-visits c =
    let p = c.index_mut-path.result.now in
    let far = c.args.self.now.far.items in
    let mine = subst (λ x. IsPath (length far) x) (sym c.index_mut-path.ensures.value) (c.requires.whole.each c.args.packet p c.requires.packet) in
    let few = subst (λ (x : Path). x.len < 6) (sym c.index_mut-path.ensures.value) (c.requires.near p) in
    visited c.args.self.now.paths.items far far c.args.packet p _ c.args.node c.requires.packet
    c.index_mut-path.ensures.value (λ k d low ne. refl) (noted far p c.args.node mine.near few)
