use Rattle.std.proofs.Common.{[], ◌∷◌, refl, rules, arith}
use Rattle.ubik_types.specs.declared.images.Change.TheVariants as change
use Rattle.ubik_types.specs.Logged.{logged}
use Rattle.ubik_store.proofs.Begun.{IsAdded, begun_more, cut_may_be_added}
use Rattle.ubik_store.proofs.transactions.Transaction.truncate.Goals as goal

pub returns-clause-begun : goal.returns-clause-begun
returns-clause-begun c =
    let t = c.args.self.now in
    let added = logged t.len (change.Cut c.args.len ∷ []) in
    let is : IsAdded t added (record t { changes = c.changes_push.new.list; len = c.min-len.result }) =
    record { start = refl; changes = search rules; len = search rules; sum = omega arith } in
    begun_more t.start t _ added c.requires.begun (cut_may_be_added t c.args.len c.requires.begun.few c.requires.begun.not_long) is
