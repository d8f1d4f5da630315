-- The first image: that of the fixed entries, which come into their chains in their order.
use Rattle.std.specs.Prelude.{ℕ, pos, ◌+◌, int_lt, List, [], ◌∷◌, if◌then◌else◌}
use Rattle.db_chains.specs.Changes.{put_in}
use Rattle.prdb_layout.specs.Layout.{layout}
use Rattle.prdb_layout.specs.Records.{first_block, has_id}
use Rattle.prdb_layout.specs.State.{PrEntry, fixed_entries, initial_state}
use Rattle.prdb_finds.specs.Keys.{id_chain, name_chain}
use Rattle.prdb_finds.specs.Places.{id_links, name_links, owned_links, owned_place}

-- an entry's block in front of the chain of its name, and then of its id
abbrev pub named : (n : ℕ) → PrEntry → List ℕ → List ℕ
named n e image = put_in id_links (id_chain e.id) n (put_in name_links (name_chain e.name) n image)

-- a group's block in front of the chain of those that its owner owns
abbrev pub owned : (n : ℕ) → PrEntry → List ℕ → List ℕ
owned n e image =
    if int_lt e.id (pos 0) then put_in owned_links (owned_place (first_block (has_id e.owner) image)) n image else image

-- this with each entry, whose blocks have these numbers from one on
abbrev pub with_each : (ℕ → PrEntry → List ℕ → List ℕ) → (n : ℕ) → List PrEntry → List ℕ → List ℕ
with_each put n [] image = image
with_each put n (e ∷ es) image = with_each put (n + 1) es (put n e image)

-- first by names and ids, then by owners
unfoldable pub first_image : List ℕ
first_image = with_each owned 1 fixed_entries (with_each named 1 fixed_entries (layout initial_state))
