-- The block that a walk along the chain of an id found.
use Rattle.std.proofs.Common.{◌≡◌, ℕ, ℤ, ◌+◌, ◌-◌, ◌*◌, ◌≤◌, List, Option, Some, None, IfSome, sym, ap, subst, ◌∙◌, arith}
use Rattle.db_chains.specs.Free.{IsNumber}
use Rattle.db_chains.specs.Links.{block_of}
use Rattle.db_chains.specs.Walks.{IsFound, stop_place}
use Rattle.db_chains.specs.declared.walks.Link.{Link}
use Rattle.db_chains.proofs.Words.{right_names}
use Rattle.prdb_layout.specs.Records.{block_in, has_id}
use Rattle.prdb_finds.specs.Keys.{id_chain}
use Rattle.prdb_finds.specs.Places.{free_blocks, id_links}
use Rattle.prdb_finds.proofs.Lookups.{same_block}
use Rattle.prdb_members.specs.Found.{IsBlockOf}

by_one : (w : ℕ) → block_of id_links w ≡ w - 1
by_one w = omega arith

pub block_found : (bytes : Option (List ℕ)) (id : ℤ) (link : Option Link) (f : Link) (number : ℕ) → link ≡ Some f → number ≡ f.word - 1
    → IfSome bytes (λ image.
    IsFound id_links (λ w block. has_id id block) image (stop_place id_links (λ w block. has_id id block) image (id_chain id)) link)
    → IfSome bytes (λ image. IsBlockOf id image (Some (record { number = number; block = f.block })))
block_found None id link f number some same found = tt
block_found (Some image) id link f number some same found =
    let test = λ (w : ℕ) (block : List ℕ). has_id id block in
    let here : IsFound id_links test image (stop_place id_links test image (id_chain id)) (Some f) =
    subst (IsFound id_links test image (stop_place id_links test image (id_chain id))) some found in
    let n = right_names id_links image f.word here.0.right in
    let k : block_of id_links f.word ≡ number = by_one f.word ∙ sym same in
    (omega (arith, n.some, n.block), here.0.block ∙ same_block image (block_of id_links f.word) ∙ ap (block_in image) k, here.1)

pub some_number : (link : Option Link) (f : Link) (len : ℕ) → link ≡ Some f → IfSome link (λ g. IsNumber free_blocks len g.word)
    → IsNumber free_blocks len f.word
some_number link f len some is = subst (λ (o : Option Link). IfSome o (λ g. IsNumber free_blocks len g.word)) some is

pub number_some : (len w : ℕ) → IsNumber free_blocks len w → 1 ≤ w
number_some len w is = omega (arith, is.some)

pub number_within : (len w number : ℕ) → IsNumber free_blocks len w → number ≡ w - 1 → 2112 + 192 * number + 192 ≤ len
number_within len w number is same = omega (arith, is.some, is.within)
