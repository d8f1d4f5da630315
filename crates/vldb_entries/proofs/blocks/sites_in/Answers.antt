use Rattle.std.proofs.Common.{ap, sym, ◌∙◌, ◌++◌, ◌∷◌, [], List, arith}
use Rattle.std.proofs.lemmas.List.FromFn.{map-range_with_len_more}
use Rattle.vldb_entries.specs.declared.entries.VlSite.{VlSite}
use Rattle.vldb_entries.specs.Forms.{site_in}
use Rattle.vldb_entries.proofs.blocks.sites_in.Goals as goal

pub loop-k-preserved : goal.loop-k-preserved
loop-k-preserved c =
    let f = site_in c.args.addresses.now c.args.block.now in
    rw (c.in_ok-push.ensures.items, c.site_in.ensures)
    (ap (λ (xs : List VlSite). xs ++ f c.loop-k.k ∷ []) c.loop-k.invariant
    ∙ sym (map-range_with_len_more f 0 c.loop-k.k c.loop-k.k (omega arith)))
