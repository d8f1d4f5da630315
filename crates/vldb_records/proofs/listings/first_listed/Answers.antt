use Rattle.std.proofs.Common.{◌≡◌, ℕ, List, Option, IfSome, map, ap, subst, ◌∙◌}
use Rattle.db_blocks.specs.Ascending.{first_blocks}
use Rattle.vldb_records.specs.Listing.{is_listed_in, rw_in}
use Rattle.vldb_entries.specs.Forms.{entry_in, whole}
use Rattle.vldb_records.proofs.Listed.{are_listed, are_small}
use Rattle.vldb_records.proofs.listings.first_listed.Goals as goal

pub returns-clause-found : goal.returns-clause-found
returns-clause-found g c =
    are_listed c.args.d.now.bytes c.in_ok-addresses.addresses c.args.listing.now c.args.after c.args.most c.in_ok-blocks.blocks.items
    c.in_ok-entries_in.field-0.items
    (subst
    (λ (b : Option (List ℕ)).
    IfSome b (λ image. c.in_ok-blocks.blocks.items
    ≡ first_blocks 3132 (is_listed_in c.args.listing.now c.args.after c.in_ok-addresses.addresses) rw_in c.args.most (whole image)))
    c.addresses.ensures.frame.looks.same.bytes c.in_ok-blocks.ensures.found)
    c.in_ok-addresses.ensures.found
    (c.in_ok-entries_in.ensures ∙ ap (map (entry_in c.in_ok-addresses.addresses)) c.deref.ensures.value)

pub returns-clause-small : goal.returns-clause-small
returns-clause-small g c =
    are_small c.in_ok-addresses.addresses c.in_ok-blocks.blocks.items c.in_ok-entries_in.field-0.items
    (c.in_ok-entries_in.ensures ∙ ap (map (entry_in c.in_ok-addresses.addresses)) c.deref.ensures.value)
