-- What one commit of a block adds to what was begun, and what one opening leaves.
use Rattle.std.proofs.Common.{◌≡◌, ◌≤◌, ℕ, Bool, false, List, [], ◌∷◌, ◌++◌, length, replicate, Option, Some, None, IfSome, cond, ltb, refl, ap, subst, ◌∙◌, ◌-◌, arith}
use Rattle.std.proofs.lemmas.Bool.Decides.{nat_tests}
use Rattle.std.specs.Prelude.{Result, Ok, Err, OnOk, MatchResult}
use Rattle.ubik_types.specs.declared.images.Change.{Change}
use Rattle.ubik_types.specs.declared.images.Change.TheVariants.{Put}
use Rattle.ubik_types.specs.Logged.{logged}
use Rattle.ubik_types.specs.declared.versions.Version.{Version}
use Rattle.disk_base.specs.Files.{Files}
use Rattle.ubik_log.specs.LogFile.{with_log}
use Rattle.ubik_log.specs.LogGrammar.{IsCommitted}
use Rattle.ubik_log.proofs.OneReading.{log_has_one_reading}
use Rattle.incoming_file.proofs.Opens.{empty_ignored}
use Rattle.ubik_store.specs.Files.{StandsFor}
use Rattle.ubik_store.specs.Files.StandsFor.{by_incoming, by_log, by_label}
use Rattle.ubik_store.specs.Rest.{RestsAs}
use Rattle.ubik_store.proofs.Telling.{of_told}
use Rattle.base_bench.specs.Blocks.{IsLabelled}
use Rattle.ubik_store.specs.declared.transactions.Transaction.{Transaction}
use Rattle.ubik_store.specs.Redo.{len_after}
use Rattle.ubik_store.specs.Store.{Adds, IsBegunOver, changes_begun}

-- a put that begins within the image is kept as it is
put_logged : (len at : ℕ) (bytes : List ℕ) → at ≤ len → logged len (Put at bytes ∷ []) ≡ Put at bytes ∷ []
put_logged len at bytes within =
    let is : ltb len at ≡ false = grind (arith, nat_tests) in
    ap (λ (b : Bool). cond b (Put len (replicate (at - len) 0) ∷ []) [] ++ Put at bytes ∷ []) is

-- the one change that was begun
pub begun_one : (before after : Option Transaction) (len at : ℕ) (bytes : List ℕ) → changes_begun before ≡ Some [] → IfSome before (IsBegunOver len) → Adds (Put at bytes) before after → at ≤ len
    → changes_begun after ≡ Some (Put at bytes ∷ [])
begun_one None after len at bytes none over adds within = absurd adds
begun_one (Some t) after len at bytes none over adds within =
    let empty : t.changes ≡ [] = cc none in
    let long : t.len ≡ len = over.len ∙ ap (len_after len) empty in
    adds ∙ ap (λ (cs : List Change). Some (cs ++ logged t.len (Put at bytes ∷ []))) empty
    ∙ ap (λ (cs : List Change). Some cs) (put_logged t.len at bytes (omega (arith, long, within)))

-- what is said of a call that went well
pub match_ok : {A E : Type 0} (r : Result A E) (P Q : Type 0) (R : E → Type 0) → MatchResult r (λ _. P) R → (P → Q) → OnOk r Q
match_ok (Ok x) P Q R says also = also says
match_ok (Err e) P Q R says also = tt

-- what is said of the changes that were begun
pub of_begun : (begun : Option (List Change)) (changes : List Change) (P : List Change → Type 0) → begun ≡ Some changes → IfSome begun P → P changes
of_begun begun changes P is says = subst (λ (o : Option (List Change)). IfSome o P) is says

-- files with a committed log stand for its version
committed_version : {fs : Files} {v : Version} {image : List ℕ} → StandsFor fs v image → fs.incoming ≡ [] → (changes : List Change) (w : Version)
    → IsCommitted fs.log changes w → v ≡ w
committed_version (by_incoming fs version image opens fits) empty changes w is = absurd (empty_ignored fs.incoming empty version image opens)
committed_version (by_log fs told version logged fits) empty changes w is = (log_has_one_reading fs.log told changes version w logged.committed is).1
committed_version (by_label fs version ignored discarded label) empty changes w is = absurd (discarded changes w is)

-- the label that an opening of a committed log leaves
pub reopened_label : (log : List ℕ) (changes : List Change) (v w : Version) (fs : Files) (len : ℕ) (old new : Option Files) → fs.incoming ≡ []
    → IsCommitted log changes w → old ≡ Some (with_log log fs)
    → IfSome old (λ fs. (image : List ℕ) × StandsFor fs v image × RestsAs v image new × (len ≡ length image)) → IsLabelled w new
reopened_label log changes v w fs len old new empty committed is stands =
    let at = of_told old (with_log log fs) (λ fs. (image : List ℕ) × StandsFor fs v image × RestsAs v image new × (len ≡ length image)) is stands in
    (at.2.0, at.2.1, at.2.2.label ∙ ap (λ (x : Version). Some x) (committed_version at.1 empty changes w committed))

-- over files that were told since an opening before
pub labelled_since : (first old new : Option Files) (v : Version) → IfSome first (λ _. (fs : Files) × (old ≡ Some fs)) → IfSome old (λ _. IsLabelled v new) → IfSome first (λ _. IsLabelled v new)
labelled_since None old new v there label = tt
labelled_since (Some f) old new v there label = subst (λ (o : Option Files). IfSome o (λ _. IsLabelled v new)) there.1 label

pub told_since : (first new : Option Files) (v : Version) → IfSome first (λ _. IsLabelled v new) → IfSome first (λ _. (fs : Files) × (new ≡ Some fs))
told_since None new v label = tt
told_since (Some f) new v label = (label.0, label.1)

pub told_first : (first : Option Files) → IfSome first (λ _. (fs : Files) × (first ≡ Some fs))
told_first None = tt
told_first (Some fs) = (fs, refl)
