-- What a pass over the blocks tells of the entries that are named after another one, and what is read of them.
use Rattle.std.proofs.Common.{◌≡◌, ℕ, ℤ, ◌+◌, ◌<◌, ◌≤◌, Bool, true, false, cond, add-one, List, [], ◌∷◌, ◌++◌, length, map, take, get_or}
use Rattle.std.proofs.Common.{Option, Some, None, Result, Ok, Err, IfSome, IfOk, refl, sym, ap, ◌∙◌}
use Rattle.std.specs.Prelude.{filter, option_map, option_to_list}
use Rattle.std.specs.List.{flat_map}
use Rattle.std.proofs.Math.Seq.{take-suc}
use Rattle.std.proofs.lemmas.Bool.{false_from_ne_true}
use Rattle.std.proofs.lemmas.List.{flat_map_more, map_push, take_all}
use Rattle.db_image.specs.Draft.{Drafted}
use Rattle.db_image.specs.declared.faults.RecordFault.{RecordFault}
use Rattle.db_image.specs.declared.images.ImageRead.{Ghosts}
use Rattle.db_blocks.specs.Ends.{OnlyLooks}
use Rattle.db_blocks.proofs.Scanned.{looks_none, looks_so, looks_then}
use Rattle.prdb_layout.specs.RecordEnds.{seen}
use Rattle.prdb_layout.specs.Registry.{Registry, IsRegistry}
use Rattle.prdb_layout.specs.State.{PrEntry}
use Rattle.prdb_layout.specs.declared.records.PrEntry.{PrEntry as CodeEntry}
use Rattle.entry_scans.specs.Found.{IsMetAt}
use Rattle.entry_scans.specs.Lists.{IsListOf}
use Rattle.prdb_lists.specs.Members.{Members}
use Rattle.prdb_finds.specs.Records.{Holds}
use Rattle.pt_service.specs.Names.{has_colon}
use Rattle.pt_service.specs.State.{entries_from, ids}
use Rattle.pt_looks.specs.States.{OfStates, members_of}
use Rattle.pt_looks.proofs.Ordered.{list_is}
use Rattle.pt_looks.proofs.Pairs.{entry_range, is_there}
use Rattle.pt_turns.specs.Under.{groups_under, ids_under, is_one_under, is_under, its_entry}
use Rattle.pt_turns.proofs.Named.{clash, whole_free}
use Rattle.pt_turns.proofs.Shared.{all_so, map_so, two_so}

-- ---- the ids of what is under a name

abbrev named_under : List ℕ → PrEntry → Bool
named_under whole e = is_under whole e.name

met_at : (r : Registry) (whole : List ℕ) (x : ℤ) → IsMetAt (named_under whole) r x → is_one_under whole (r.entry x) ≡ true
met_at r whole x is = ap (is_one_under whole) is.1 ∙ is.2

met_by : (r : Registry) (whole : List ℕ) (x : ℤ) (o : Option PrEntry) → r.entry x ≡ o → is_one_under whole o ≡ true
    → IsMetAt (named_under whole) r x
met_by r whole x None at is = absurd cc
met_by r whole x (Some e) at is = (e, at, is)

list_under : (r : Registry) (whole : List ℕ) (xs : List ℤ) → IsRegistry r → IsListOf (IsMetAt (named_under whole) r) xs
    → xs ≡ ids_under r whole
unfolding ids_under
list_under r whole xs valid list =
    list_is (λ id. is_one_under whole (r.entry id)) (IsMetAt (named_under whole) r) xs
    (record { ascending = list.ascending; each = list.each; all = list.all })
    (λ x met. met_at r whole x met) (λ x is. met_by r whole x (r.entry x) refl is)
    (λ x met. entry_range r x valid (is_there (r.entry x) met.0 met.1))

under_told : (bytes : Option (List ℕ)) (whole : List ℕ) (xs : List ℤ)
    → IfSome bytes (λ image. (r : Registry) (m : Members) → Holds image r m → IsListOf (IsMetAt (named_under whole) r) xs)
    → OfStates bytes (λ s. xs ≡ ids_under s.registry whole)
under_told None whole xs told = tt
under_told (Some image) whole xs told = λ s holds. list_under s.registry whole xs holds.pairs.holds.valid
    (told s.registry (members_of s) holds)

pub under_so : {X : Type 0} (res : Result X RecordFault) (items : X → List ℤ) (bytes : Option (List ℕ)) (whole : List ℕ)
    → IfOk res (λ ids. IfSome bytes (λ image. (r : Registry) (m : Members) → Holds image r m
    → IsListOf (IsMetAt (named_under whole) r) (items ids)))
    → IfOk res (λ ids. OfStates bytes (λ s. items ids ≡ ids_under s.registry whole))
under_so (Err fault) items bytes whole told = tt
under_so (Ok ids) items bytes whole told = under_told bytes whole (items ids) told

-- nothing is under a name with a `:`
none_one : (whole : List ℕ) (o : Option PrEntry) → has_colon whole ≡ true → is_one_under whole o ≡ false
none_one whole None has = refl
none_one whole (Some e) has =
    false_from_ne_true (is_under whole e.name) (λ is. clash (has_colon whole) has (whole_free whole e.name is))

none_in : (r : Registry) (whole : List ℕ) (xs : List ℤ) → has_colon whole ≡ true → filter (λ id. is_one_under whole (r.entry id)) xs ≡ []
none_in r whole [] has = refl
none_in r whole (x ∷ xs) has =
    ap
    (λ (b : Bool). cond b (x ∷ filter (λ id. is_one_under whole (r.entry id)) xs) (filter (λ id. is_one_under whole (r.entry id)) xs))
    (none_one whole (r.entry x) has)
    ∙ none_in r whole xs has

none_at : (r : Registry) (whole : List ℕ) → has_colon whole ≡ true → [] ≡ ids_under r whole
unfolding ids_under
none_at r whole has = sym (none_in r whole ids has)

pub none_under : (bytes : Option (List ℕ)) (whole : List ℕ) (xs : List ℤ) → xs ≡ [] → has_colon whole ≡ true
    → OfStates bytes (λ s. xs ≡ ids_under s.registry whole)
none_under bytes whole xs is has =
    all_so bytes (λ s. xs ≡ ids_under s.registry whole) (λ image s holds. is ∙ none_at s.registry whole has)

-- ---- their entries

cond_flat : (r : Registry) (x : ℤ) (xs : List ℤ) (b : Bool)
    → flat_map (its_entry r) (cond b (x ∷ xs) xs) ≡ cond b (its_entry r x ++ flat_map (its_entry r) xs) (flat_map (its_entry r) xs)
cond_flat r x xs true = refl
cond_flat r x xs false = refl

one_kept : (whole : List ℕ) (o : Option PrEntry) (fs rest : List PrEntry) → fs ≡ filter (named_under whole) rest
    → cond (is_one_under whole o) (option_to_list o ++ fs) fs ≡ filter (named_under whole) (option_to_list o ++ rest)
one_kept whole None fs rest same = same
one_kept whole (Some e) fs rest same = ap (λ (zs : List PrEntry). cond (is_under whole e.name) (e ∷ zs) zs) same

all_kept : (r : Registry) (whole : List ℕ) (xs : List ℤ)
    → flat_map (its_entry r) (filter (λ id. is_one_under whole (r.entry id)) xs) ≡ filter (named_under whole) (flat_map (its_entry r) xs)
all_kept r whole [] = refl
all_kept r whole (x ∷ xs) =
    let kept = filter (λ id. is_one_under whole (r.entry id)) xs in
    cond_flat r x kept (is_one_under whole (r.entry x))
    ∙ one_kept whole (r.entry x) (flat_map (its_entry r) kept) (flat_map (its_entry r) xs) (all_kept r whole xs)

groups_are : (r : Registry) (whole : List ℕ) → flat_map (its_entry r) (ids_under r whole) ≡ groups_under r whole
unfolding ids_under ids entries_from
groups_are r whole = all_kept r whole ids

groups_told : (bytes look : Option (List ℕ)) (whole : List ℕ) (xs : List ℤ) (es : List CodeEntry)
    → OfStates bytes (λ s. xs ≡ ids_under s.registry whole) → look ≡ bytes
    → OfStates look (λ s. map seen es ≡ flat_map (its_entry s.registry) xs)
    → OfStates bytes (λ s. map seen es ≡ groups_under s.registry whole)
groups_told bytes look whole xs es are same read =
    two_so bytes bytes look (λ s. xs ≡ ids_under s.registry whole) (λ s. map seen es ≡ flat_map (its_entry s.registry) xs)
    (λ s. map seen es ≡ groups_under s.registry whole) refl same
    (λ image s holds is told. told ∙ ap (flat_map (its_entry s.registry)) is ∙ groups_are s.registry whole) are read

pub groups_so : {X : Type 0} (res : Result X RecordFault) (items : X → List CodeEntry) (bytes look : Option (List ℕ)) (whole : List ℕ)
    (xs : List ℤ)
    → OfStates bytes (λ s. xs ≡ ids_under s.registry whole) → look ≡ bytes
    → IfOk res (λ es. OfStates look (λ s. map seen (items es) ≡ flat_map (its_entry s.registry) xs))
    → IfOk res (λ es. OfStates bytes (λ s. map seen (items es) ≡ groups_under s.registry whole))
groups_so (Err fault) items bytes look whole xs are same read = tt
groups_so (Ok es) items bytes look whole xs are same read = groups_told bytes look whole xs (items es) are same read

-- ---- one after the other

-- those of the first ids
pub record Gathered {I : Type 0} (g : Ghosts I) (first now : Drafted I) (ids : List ℤ) (es : List CodeEntry) (done : ℕ) : Type 0 where
  pub frame : OnlyLooks g first now ⊥
  pub are : OfStates first.bytes (λ s. map seen es ≡ flat_map (its_entry s.registry) (take done ids))

pub gathered_none : {I : Type 0} (g : Ghosts I) (d : Drafted I) (ids : List ℤ) (es : List CodeEntry) → es ≡ [] → Gathered g d d ids es 0
gathered_none g d ids es is = record {
  frame = looks_none g d ⊥ (λ h. h);
  are = all_so d.bytes (λ s. map seen es ≡ flat_map (its_entry s.registry) (take 0 ids)) (λ image s holds. ap (map seen) is);
}

one_more : (r : Registry) (ids : List ℤ) (done : ℕ) (x : ℤ) (o : Option PrEntry) (es later : List PrEntry) → done < length ids
    → x ≡ get_or ids done x → o ≡ r.entry x → es ≡ flat_map (its_entry r) (take done ids) → later ≡ es ++ option_to_list o
    → later ≡ flat_map (its_entry r) (take (done + 1) ids)
one_more r ids done x o es later below is found so pushed =
    let one : take (done + 1) ids ≡ take done ids
    ++ x ∷ [] = rw add-one (take-suc ids done x below ∙ ap (λ (n : ℤ). take done ids ++ n ∷ []) (sym is)) in
    pushed ∙ ap (λ (fs : List PrEntry). fs ++ option_to_list o) so
    ∙ ap (λ (p : Option PrEntry). flat_map (its_entry r) (take done ids) ++ option_to_list p) found
    ∙ flat_map_more (its_entry r) [] (take done ids) x ∙ ap (flat_map (its_entry r)) (sym one)

gathered_by : {I : Type 0} (g : Ghosts I) (first now next : Drafted I) (failed : Type 0) (ids : List ℤ) (es later : List CodeEntry)
    (done : ℕ) (x : ℤ) (o : Option PrEntry)
    → OnlyLooks g now next failed → OfStates now.bytes (λ s. o ≡ s.registry.entry x) → x ≡ get_or ids done x → done < length ids
    → map seen later ≡ map seen es ++ option_to_list o
    → Gathered g first now ids es done → Gathered g first next ids later (done + 1)
gathered_by g first now next failed ids es later done x o looks found is below pushed so = record {
  frame = looks_then g first now next ⊥ ⊥ so.frame (looks_so g now next failed ⊥ looks (λ h. absurd h));
  are = two_so first.bytes first.bytes now.bytes (λ s. map seen es ≡ flat_map (its_entry s.registry) (take done ids))
      (λ s. o ≡ s.registry.entry x) (λ s. map seen later ≡ flat_map (its_entry s.registry) (take (done + 1) ids)) refl so.frame.same.bytes
      (λ image s holds are here. one_more s.registry ids done x o (map seen es) (map seen later) below is here are pushed) so.are found;
}

no_entry : (es : List PrEntry) → es ≡ es ++ []
no_entry [] = refl
no_entry (e ∷ es) = ap (λ (fs : List PrEntry). e ∷ fs) (no_entry es)

pub gathered_more : {I : Type 0} (g : Ghosts I) (first now next : Drafted I) (failed : Type 0) (ids : List ℤ) (es later : List CodeEntry)
    (done : ℕ) (x : ℤ) (o : Option CodeEntry) (e : CodeEntry)
    → OnlyLooks g now next failed → OfStates now.bytes (λ s. option_map seen o ≡ s.registry.entry x) → x ≡ get_or ids done x
    → done < length ids → o ≡ Some e → later ≡ es ++ e ∷ []
    → Gathered g first now ids es done → Gathered g first next ids later (done + 1)
gathered_more g first now next failed ids es later done x o e looks found is below some pushed so =
    gathered_by g first now next failed ids es later done x (option_map seen o) looks found is below
    (ap (map seen) pushed ∙ map_push seen es e
    ∙ ap (λ (p : Option CodeEntry). map seen es ++ option_to_list (option_map seen p)) (sym some)) so

pub gathered_other : {I : Type 0} (g : Ghosts I) (first now next : Drafted I) (failed : Type 0) (ids : List ℤ) (es : List CodeEntry)
    (done : ℕ) (x : ℤ) (o : Option CodeEntry)
    → OnlyLooks g now next failed → OfStates now.bytes (λ s. option_map seen o ≡ s.registry.entry x) → x ≡ get_or ids done x
    → done < length ids → o ≡ None → Gathered g first now ids es done → Gathered g first next ids es (done + 1)
gathered_other g first now next failed ids es done x o looks found is below none so =
    gathered_by g first now next failed ids es es done x (option_map seen o) looks found is below
    (no_entry (map seen es) ∙ ap (λ (p : Option CodeEntry). map seen es ++ option_to_list (option_map seen p)) (sym none)) so

pub gathered_all : {I : Type 0} (g : Ghosts I) (first now : Drafted I) (ids : List ℤ) (es result : List CodeEntry) (done : ℕ)
    → length ids ≤ done → result ≡ es → Gathered g first now ids es done
    → OfStates first.bytes (λ s. map seen result ≡ flat_map (its_entry s.registry) ids)
gathered_all g first now ids es result done past is so =
    map_so first.bytes first.bytes (λ s. map seen es ≡ flat_map (its_entry s.registry) (take done ids))
    (λ s. map seen result ≡ flat_map (its_entry s.registry) ids) refl
    (λ image s holds are. ap (map seen) is ∙ are ∙ ap (flat_map (its_entry s.registry)) (take_all done ids past)) so.are
