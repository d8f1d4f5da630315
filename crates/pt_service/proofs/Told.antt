-- What calls find out of the registry: the maxima, whether an id has an entry, and its name.
use Rattle.std.proofs.Common.{◌≡◌, ℕ, ℤ, Bool, true, false, not, List, Option, Some, None, refl, sym, ap, ◌∙◌}
use Rattle.std.specs.Prelude.{is_none, is_some}
use Rattle.std.specs.Fmt.{signed_decimal}
use Rattle.std.specs.Option.{option_map}
use Rattle.prdb_layout.specs.RecordEnds.{seen}
use Rattle.prdb_layout.specs.State.{PrEntry}
use Rattle.prdb_layout.specs.declared.records.PrEntry.{PrEntry as CodeEntry}
use Rattle.pt_calls.specs.declared.answers.PtAnswer.TheVariants as answer
use Rattle.pt_service.specs.Meaning.{name_of, name_or_digits}
use Rattle.pt_service.specs.Told.{Told}
use Rattle.pt_service.proofs.Done.{told_map}

pub maxima_told : (bytes : Option (List ℕ)) (u g : ℤ) → Told bytes (λ r. ◌≡◌ {A = ℤ × ℤ} (u, g) (r.max_user, r.max_group))
    → Told bytes (λ r. answer.Maxima u g ≡ answer.Maxima r.max_user r.max_group)
maxima_told bytes u g told =
    told_map bytes (λ r. ◌≡◌ {A = ℤ × ℤ} (u, g) (r.max_user, r.max_group))
    (λ r. answer.Maxima u g ≡ answer.Maxima r.max_user r.max_group) (λ r is. ap (λ (p : ℤ × ℤ). answer.Maxima p.0 p.1) is) told

twice : (b : Bool) → b ≡ not (not b)
twice true = refl
twice false = refl

none_seen : (found : Option CodeEntry) → is_none found ≡ is_none (option_map seen found)
none_seen None = refl
none_seen (Some e) = refl

pub unused_told : (bytes : Option (List ℕ)) (found : Option CodeEntry) (id : ℤ) (b : Bool) → is_some found ≡ not b
    → Told bytes (λ r. option_map seen found ≡ r.entry id) → Told bytes (λ r. b ≡ is_none (r.entry id))
unused_told bytes found id b is told =
    told_map bytes (λ r. option_map seen found ≡ r.entry id) (λ r. b ≡ is_none (r.entry id))
    (λ r at. twice b ∙ ap not (sym is) ∙ none_seen found ∙ ap is_none at) told

pub name_told : (bytes : Option (List ℕ)) (e : PrEntry) (id : ℤ) → Told bytes (λ r. Some e ≡ r.entry id)
    → Told bytes (λ r. e.name ≡ name_of r id)
name_told bytes e id told =
    told_map bytes (λ r. Some e ≡ r.entry id) (λ r. e.name ≡ name_of r id) (λ r at. ap (name_or_digits id) at) told

pub digits_told : (bytes : Option (List ℕ)) (text : List ℕ) (id : ℤ) → text ≡ signed_decimal id → Told bytes (λ r. None ≡ r.entry id)
    → Told bytes (λ r. text ≡ name_of r id)
digits_told bytes text id is told =
    told_map bytes (λ r. None ≡ r.entry id) (λ r. text ≡ name_of r id) (λ r at. is ∙ ap (name_or_digits id) at) told
