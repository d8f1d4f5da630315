-- The id of the entry that was found under a name.
use Rattle.std.proofs.Common.{◌≡◌, ℕ, ℤ, Bool, List, Option, Some, None, refl, sym, ap, ◌∙◌}
use Rattle.std.specs.Prelude.{is_some, unwrap_or}
use Rattle.std.specs.Option.{option_map}
use Rattle.prdb_layout.specs.Names.{lowered}
use Rattle.prdb_layout.specs.RecordEnds.{seen}
use Rattle.prdb_layout.specs.Registry.{IsNamed, Registry}
use Rattle.prdb_layout.specs.State.{PrEntry, anonymous}
use Rattle.prdb_layout.specs.declared.records.PrEntry.{PrEntry as CodeEntry}
use Rattle.prdb_lists.specs.Members.{Members}
use Rattle.prdb_finds.specs.Records.{Holds}
use Rattle.pt_calls.specs.Meaning.{id_named, id_or_anonymous}
use Rattle.pt_calls.specs.NameLaws.{named_is}
use Rattle.pt_service.specs.Told.{Told}

pub its_id : (image : List ℕ) (r : Registry) (m : Members) (name : List ℕ) (o : Option PrEntry) → Holds image r m → IsNamed r name o
    → id_named r name ≡ option_map (λ e. e.id) o
its_id image r m name o holds named = named_is r name o holds.pairs.holds.valid named

-- a name is translated to it
pub id_found : (bytes : Option (List ℕ)) (name searched : List ℕ) (o : Option PrEntry) (z : ℤ) → searched ≡ lowered name
    → z ≡ unwrap_or (option_map (λ e. e.id) o) anonymous → Told bytes (λ r. IsNamed r searched o) → Told bytes (λ r. z ≡ id_or_anonymous r name)
id_found None name searched o z low is found = tt
id_found (Some image) name searched o z low is found = λ r m holds.
    is ∙ ap (λ (i : Option ℤ). unwrap_or i anonymous) (sym (its_id image r m searched o holds (found r m holds)) ∙ ap (id_named r) low)

some_id : {X Y : Type 0} (f : X → Y) (o : Option X) → is_some (option_map f o) ≡ is_some o
some_id f None = refl
some_id f (Some x) = refl

-- and the name is taken where there is one
pub taken_is : (bytes : Option (List ℕ)) (name : List ℕ) (found : Option CodeEntry) (b : Bool) → b ≡ is_some found
    → Told bytes (λ r. IsNamed r name (option_map seen found)) → Told bytes (λ r. b ≡ is_some (id_named r name))
taken_is None name found b is named = tt
taken_is (Some image) name found b is named = λ r m holds.
    is ∙ sym (some_id seen found) ∙ sym (some_id (λ e. e.id) (option_map seen found))
    ∙ sym (ap is_some (its_id image r m name (option_map seen found) holds (named r m holds)))
