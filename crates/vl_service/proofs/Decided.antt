-- What is decided of an entry that is to come in.
use Rattle.std.proofs.Common.{◌≡◌, ℕ, Bool, true, false, not, ◌&&◌, ◌||◌, cond, eqb, ltb, List, [], ◌∷◌, length, Option, Some, None, IfSome, refl, sym, ap, subst, ◌∙◌}
use Rattle.std.specs.Prelude.{is_none}
use Rattle.std.specs.List.{list_any}
use Rattle.std.specs.Str.{bytes_eq}
use Rattle.std.proofs.lemmas.Slice.Eq.{bytes_eq-Decides}
use Rattle.std.proofs.lemmas.Bool.{false_from_ne_true}
use Rattle.vl_calls.specs.declared.calls.GivenEntry.{GivenEntry}
use Rattle.vldb_entries.specs.declared.entries.VlEntry.{VlEntry}
use Rattle.vldb_entries.specs.Location.{Location, IsLocation, IsNamed, IsOfId, has_id, has_repeat, is_name, placed}
use Rattle.vldb_records.specs.Records.{Holds}
use Rattle.vl_service.specs.Entering.{IsDecided, other_has_id, other_has_name, other_shares_id, own_fault, shared_fault}
use Rattle.vl_service.specs.Meaning.{entries, entry_faults, first_fault, is_bad_entry, is_other}
use Rattle.vl_service.specs.Refusals.{id_exists, name_exists, size_exceeded}
use Rattle.vl_service.specs.Refusals as rule
use Rattle.vl_service.specs.declared.deciding.Decision.TheVariants.{Enters, Refused}
use Rattle.vl_service.specs.declared.deciding.Places.{Places}
use Rattle.vl_service.proofs.Entries.{IsOnly, other_meets, other_of}

-- ---- the first fault is one of the entry alone, or one of those behind them

abbrev pub or_else : Option ℕ → Option ℕ → Option ℕ
or_else None later = later
or_else (Some fault) later = Some fault

-- the rule of want of places
abbrev pub size_fault : Option (List ℕ) → Option ℕ
size_fault None = Some size_exceeded
size_fault (Some places) = None

-- the faults behind those, by three tests
abbrev later_fault : (name id size : Bool) → Option ℕ
later_fault name id size = cond name (Some name_exists) (cond id (Some id_exists) (cond size (Some size_exceeded) None))

shared_then_size : (name id : Bool) (places : Option (List ℕ))
    → later_fault name id (is_none places) ≡ or_else (cond name (Some name_exists) (cond id (Some id_exists) None)) (size_fault places)
shared_then_size true id places = refl
shared_then_size false true places = refl
shared_then_size false false None = refl
shared_then_size false false (Some places) = refl

in_order : (a b c d e f g : Bool) (last : Option ℕ)
    → cond a (Some rule.bad_name) (cond b (Some rule.replicas_full) (cond c (Some rule.no_replica) (cond d (Some rule.bad_server)
    (cond e (Some rule.bad_partition) (cond f (Some rule.repeated_replica) (cond g (Some rule.bad_entry) last))))))
    ≡ or_else (cond a (Some rule.bad_name) (cond b (Some rule.replicas_full) (cond c (Some rule.no_replica) (cond d (Some rule.bad_server)
    (cond e (Some rule.bad_partition) (cond f (Some rule.repeated_replica) (cond g (Some rule.bad_entry) None))))))) last
in_order true b c d e f g last = refl
in_order false true c d e f g last = refl
in_order false false true d e f g last = refl
in_order false false false true e f g last = refl
in_order false false false false true f g last = refl
in_order false false false false false true g last = refl
in_order false false false false false false true last = refl
in_order false false false false false false false last = refl

pub faults_are : (s : Location) (own : ℕ) (e : GivenEntry)
    → first_fault (entry_faults s own e) ≡ or_else (own_fault e) (or_else (shared_fault s own e) (size_fault (placed e.sites s.addresses)))
unfolding entry_faults
faults_are s own e =
    in_order (not (is_name e.name)) (ltb 13 (length e.sites)) (eqb (length e.sites) 0) (list_any (λ site. eqb site.host 0) e.sites)
    (list_any (λ site. ltb 255 site.partition) e.sites) (has_repeat e.sites) (is_bad_entry e)
    (later_fault (other_has_name s own e.name) (other_shares_id s own e) (is_none (placed e.sites s.addresses)))
    ∙ ap (or_else (own_fault e)) (shared_then_size (other_has_name s own e.name) (other_shares_id s own e) (placed e.sites s.addresses))

-- ---- another entry

only_named : (s : Location) (name : List ℕ) (found : Option VlEntry) → IsLocation s → IsNamed s name found
    → IsOnly s (λ f. bytes_eq f.name name) found
only_named s name None valid is =
    λ rw_id f at. false_from_ne_true (bytes_eq f.name name) (λ same. is rw_id f at ((bytes_eq-Decides f.name name).0 same))
only_named s name (Some e) valid is = (
  is.0,
  (bytes_eq-Decides e.name name).1 is.1,
  λ rw_id f at same. valid.names rw_id e.rw f e at is.0 ((bytes_eq-Decides f.name name).0 same ∙ sym is.1),
)

pub name_found : (bytes : Option (List ℕ)) (own : ℕ) (name : List ℕ) (found : Option VlEntry)
    → IfSome bytes (λ image. (s : Location) → Holds image s → IsNamed s name found)
    → IfSome bytes (λ image. (s : Location) → Holds image s → other_of own found ≡ other_has_name s own name)
name_found None own name found is = tt
name_found (Some image) own name found is =
    λ s holds. sym (other_meets s own (λ f. bytes_eq f.name name) found holds.valid (only_named s name found holds.valid (is s holds)))

only_of_id : (s : Location) (id : ℕ) (found : Option VlEntry) → IsLocation s → IsOfId s id found → IsOnly s (has_id id) found
only_of_id s id None valid is = is
only_of_id s id (Some e) valid is = (is.0, is.1, λ rw_id f at has. valid.apart rw_id e.rw id f e at is.0 has is.1)

pub id_found : (bytes : Option (List ℕ)) (own id : ℕ) (found : Option VlEntry)
    → IfSome bytes (λ image. (s : Location) → Holds image s → IsOfId s id found)
    → IfSome bytes (λ image. (s : Location) → Holds image s → other_of own found ≡ other_has_id s own id)
id_found None own id found is = tt
id_found (Some image) own id found is =
    λ s holds. sym (other_meets s own (has_id id) found holds.valid (only_of_id s id found holds.valid (is s holds)))

-- ---- one of three ids

three : (q a b c x y z : Bool) → ((q && (a || b || c)) || (x || y || z)) ≡ (((q && a) || x) || ((q && b) || y) || ((q && c) || z))
three false a b c x y z = refl
three true true b c x y z = refl
three true false true c true y z = refl
three true false true c false y z = refl
three true false false true true y z = refl
three true false false true false true z = refl
three true false false true false false z = refl
three true false false false x y z = refl

any_three : (q a b c : VlEntry → Bool) (xs : List VlEntry)
    → list_any (λ f. q f && (a f || b f || c f)) xs ≡ (list_any (λ f. q f && a f) xs || list_any (λ f. q f && b f) xs
    || list_any (λ f. q f && c f) xs)
any_three q a b c [] = refl
any_three q a b c (x ∷ xs) =
    ap (λ (t : Bool). (q x && (a x || b x || c x)) || t) (any_three q a b c xs)
    ∙ three (q x) (a x) (b x) (c x) (list_any (λ f. q f && a f) xs) (list_any (λ f. q f && b f) xs) (list_any (λ f. q f && c f) xs)

shares : (s : Location) (own : ℕ) (e : GivenEntry)
    → other_shares_id s own e ≡ (other_has_id s own e.rw || other_has_id s own e.ro || other_has_id s own e.backup)
shares s own e = any_three (is_other own) (has_id e.rw) (has_id e.ro) (has_id e.backup) (entries s)

-- the three one after the other, each where those before it are no other entry's
pub shares_first : (bytes : Option (List ℕ)) (own : ℕ) (e : GivenEntry)
    → IfSome bytes (λ image. (s : Location) → Holds image s → true ≡ other_has_id s own e.rw)
    → IfSome bytes (λ image. (s : Location) → Holds image s → true ≡ other_shares_id s own e)
shares_first None own e first = tt
shares_first (Some image) own e first = λ s holds.
    sym (shares s own e ∙ ap (λ (b : Bool). b || other_has_id s own e.ro || other_has_id s own e.backup) (sym (first s holds)))

pub shares_second : (bytes mid : Option (List ℕ)) (own : ℕ) (e : GivenEntry) → mid ≡ bytes
    → IfSome bytes (λ image. (s : Location) → Holds image s → false ≡ other_has_id s own e.rw)
    → IfSome mid (λ image. (s : Location) → Holds image s → true ≡ other_has_id s own e.ro)
    → IfSome bytes (λ image. (s : Location) → Holds image s → true ≡ other_shares_id s own e)
shares_second None mid own e same first second = tt
shares_second (Some image) mid own e same first second = λ s holds.
    let here = subst (λ (b : Option (List ℕ)). IfSome b (λ image. (s : Location) → Holds image s → true ≡ other_has_id s own e.ro)) same
    second in
    sym (shares s own e ∙ ap (λ (b : Bool). b || other_has_id s own e.ro || other_has_id s own e.backup) (sym (first s holds))
    ∙ ap (λ (b : Bool). b || other_has_id s own e.backup) (sym (here s holds)))

pub shares_third : (bytes mid last : Option (List ℕ)) (own : ℕ) (e : GivenEntry) (found : Bool) → mid ≡ bytes → last ≡ mid
    → IfSome bytes (λ image. (s : Location) → Holds image s → false ≡ other_has_id s own e.rw)
    → IfSome mid (λ image. (s : Location) → Holds image s → false ≡ other_has_id s own e.ro)
    → IfSome last (λ image. (s : Location) → Holds image s → found ≡ other_has_id s own e.backup)
    → IfSome bytes (λ image. (s : Location) → Holds image s → found ≡ other_shares_id s own e)
shares_third None mid last own e found same again first second third = tt
shares_third (Some image) mid last own e found same again first second third = λ s holds.
    let at_ro = subst (λ (b : Option (List ℕ)). IfSome b (λ image. (s : Location) → Holds image s → false ≡ other_has_id s own e.ro))
    same second in
    let at_backup = subst
    (λ (b : Option (List ℕ)). IfSome b (λ image. (s : Location) → Holds image s → found ≡ other_has_id s own e.backup))
    (again ∙ same) third in
    sym (shares s own e ∙ ap (λ (b : Bool). b || other_has_id s own e.ro || other_has_id s own e.backup) (sym (first s holds))
    ∙ ap (λ (b : Bool). b || other_has_id s own e.backup) (sym (at_ro s holds)) ∙ sym (at_backup s holds))

-- the name first, then the ids
pub name_shared : (bytes : Option (List ℕ)) (own : ℕ) (e : GivenEntry)
    → IfSome bytes (λ image. (s : Location) → Holds image s → true ≡ other_has_name s own e.name)
    → IfSome bytes (λ image. (s : Location) → Holds image s → Some name_exists ≡ shared_fault s own e)
name_shared None own e is = tt
name_shared (Some image) own e is =
    λ s holds. ap (λ (b : Bool). cond b (Some name_exists) (cond (other_shares_id s own e) (Some id_exists) None)) (is s holds)

pub id_shared : (bytes mid : Option (List ℕ)) (own : ℕ) (e : GivenEntry) (b : Bool) → mid ≡ bytes
    → IfSome bytes (λ image. (s : Location) → Holds image s → false ≡ other_has_name s own e.name)
    → IfSome mid (λ image. (s : Location) → Holds image s → b ≡ other_shares_id s own e)
    → IfSome bytes (λ image. (s : Location) → Holds image s → cond b (Some id_exists) None ≡ shared_fault s own e)
id_shared None mid own e b same name is = tt
id_shared (Some image) mid own e b same name is = λ s holds.
    let here = subst (λ (o : Option (List ℕ)). IfSome o (λ image. (s : Location) → Holds image s → b ≡ other_shares_id s own e)) same is in
    ap (λ (t : Bool). cond t (Some id_exists) None) (here s holds)
    ∙ ap (λ (t : Bool). cond t (Some name_exists) (cond (other_shares_id s own e) (Some id_exists) None)) (name s holds)

-- ---- decisions

pub own_refused : (bytes : Option (List ℕ)) (own : ℕ) (e : GivenEntry) (fault : ℕ) → Some fault ≡ own_fault e
    → IfSome bytes (λ image. (s : Location) → Holds image s → IsDecided s own e (Refused fault))
own_refused None own e fault is = tt
own_refused (Some image) own e fault is = λ s holds.
    faults_are s own e ∙ ap (λ (o : Option ℕ). or_else o (or_else (shared_fault s own e) (size_fault (placed e.sites s.addresses))))
    (sym is)

pub shared_refused : (bytes : Option (List ℕ)) (own : ℕ) (e : GivenEntry) (fault : ℕ) → None ≡ own_fault e
    → IfSome bytes (λ image. (s : Location) → Holds image s → Some fault ≡ shared_fault s own e)
    → IfSome bytes (λ image. (s : Location) → Holds image s → IsDecided s own e (Refused fault))
shared_refused None own e fault none is = tt
shared_refused (Some image) own e fault none is = λ s holds.
    faults_are s own e ∙ ap (λ (o : Option ℕ). or_else o (or_else (shared_fault s own e) (size_fault (placed e.sites s.addresses))))
    (sym none)
    ∙ ap (λ (o : Option ℕ). or_else o (size_fault (placed e.sites s.addresses))) (sym (is s holds))

-- the looks before the places, over the same bytes
pub record AreLooks (bytes mid : Option (List ℕ)) (own : ℕ) (e : GivenEntry) (old : List ℕ) : Type 0 where
  pub same : mid ≡ bytes
  pub none : None ≡ own_fault e
  pub shared : IfSome bytes (λ image. (s : Location) → Holds image s → None ≡ shared_fault s own e)
  pub places : IfSome mid (λ image. (s : Location) → Holds image s → old ≡ s.addresses)

looked : (image : List ℕ) (mid : Option (List ℕ)) (own : ℕ) (e : GivenEntry) (old : List ℕ) (s : Location)
    → AreLooks (Some image) mid own e old → Holds image s
    → (old ≡ s.addresses) × (first_fault (entry_faults s own e) ≡ size_fault (placed e.sites old))
looked image mid own e old s looks holds =
    let places = subst (λ (b : Option (List ℕ)). IfSome b (λ image. (s : Location) → Holds image s → old ≡ s.addresses)) looks.same
    looks.places in
    let here = places s holds in (
      here,
      faults_are s own e ∙ ap (λ (o : Option ℕ). or_else o (or_else (shared_fault s own e) (size_fault (placed e.sites s.addresses))))
          (sym looks.none)
          ∙ ap (λ (o : Option ℕ). or_else o (size_fault (placed e.sites s.addresses))) (sym (looks.shared s holds))
          ∙ ap (λ (a : List ℕ). size_fault (placed e.sites a)) (sym here),
    )

pub size_refused : (bytes mid : Option (List ℕ)) (own : ℕ) (e : GivenEntry) (old : List ℕ) → AreLooks bytes mid own e old
    → None ≡ placed e.sites old
    → IfSome bytes (λ image. (s : Location) → Holds image s → IsDecided s own e (Refused size_exceeded))
size_refused None mid own e old looks none = tt
size_refused (Some image) mid own e old looks none = λ s holds. (looked image mid own e old s looks holds).1 ∙ ap size_fault (sym none)

pub enters : (bytes mid : Option (List ℕ)) (own : ℕ) (e : GivenEntry) (places : Places) → AreLooks bytes mid own e places.old
    → Some places.new ≡ placed e.sites places.old
    → IfSome bytes (λ image. (s : Location) → Holds image s → IsDecided s own e (Enters places))
enters None mid own e places looks some = tt
enters (Some image) mid own e places looks some = λ s holds.
    let l = looked image mid own e places.old s looks holds in (l.1 ∙ ap size_fault (sym some), l.0, sym some)
