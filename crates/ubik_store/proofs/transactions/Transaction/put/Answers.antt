use Rattle.std.proofs.Common.{◌≡◌, List, [], ◌∷◌, ◌++◌, refl, sym, ap, ◌∙◌, arith}
use Rattle.ubik_types.specs.declared.images.Change.{Change}
use Rattle.ubik_types.specs.declared.images.Change.TheVariants as change
use Rattle.ubik_types.specs.Logged.{logged}
use Rattle.ubik_store.proofs.Begun.{IsAdded, begun_more, put_may_be_added, kept_put_is}
use Rattle.ubik_store.proofs.Measured.{put_within}
use Rattle.ubik_store.proofs.transactions.Transaction.put.Goals as goal

pub returns-clause-begun : goal.returns-clause-begun
returns-clause-begun c =
    let t = c.args.self.now in
    let bytes = c.args.bytes.now in
    let after = c.in_ok-after.ensures in
    let within = put_within t.sum t.len c.args.at bytes [] after.fits in
    let kept = kept_put_is t.len c.args.at bytes within.gap within.whole in
    let added = logged t.len (change.Put c.args.at bytes ∷ []) in
    let put = c.in_ok-put.ensures in
    let list : c.append.new.list ≡ t.changes ++ added = c.in_ok-append.ensures.ok ∙ ap (λ (cs : List Change). t.changes ++ cs) put in
    let is : IsAdded t added (record t { changes = c.append.new.list; sum = c.in_ok-after.after.sum; len = c.in_ok-after.after.len }) =
    record { start = refl; changes = list; len = after.len ∙ sym kept.len_after; sum = omega (arith, after.sum, kept.sum) } in
    begun_more t.start t _ added c.requires.begun (put_may_be_added t c.args.at bytes within.gap within.whole within.few) is
