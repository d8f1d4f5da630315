-- What is told of an evaluation.
use Rattle.std.proofs.Common.{◌≡◌, ◌≤◌, ℕ, List, [], ◌∷◌, Option, Some, None, IfOk, IfSome, length, Result, Ok, Err, refl, sym, subst, eq-eqb}
use Rattle.std.proofs.lemmas.Bool.{and_parts, cond_both}
use Rattle.std.proofs.lemmas.Slice.Eq.{bytes_eq-Decides}
use Rattle.std.specs.Prelude.{Bool, ◌==◌, ◌&&◌}
use Rattle.std.specs.Str.{bytes_eq}
use Rattle.db_image.specs.Database.{Database, Outcome}
use Rattle.db_image.specs.Standing.{Standing}
use Rattle.cell_model.specs.Evaluating.{Evaluated, MayAllCome, MayCome, Told, outcome_told, told_at}
use Rattle.cell_model.specs.Step.{is_short}
use Rattle.ubik_node.specs.declared.evaluations.Evaluation as code
use Rattle.ubik_node.specs.Choices.{Choices}
use Rattle.ubik_node.specs.Evaluation.{IsMadeOf, IsOutcome}

-- the outcome that is told of an evaluation is told of itself
pub told_itself : (db : Database) (e : Evaluated) → outcome_told (Some e) db e.image e.moment e.call ≡ e.outcome
told_itself db e =
    rw ((bytes_eq-Decides e.image e.image).1 refl, eq-eqb e.moment e.moment refl, (bytes_eq-Decides e.call e.call).1 refl) refl

-- one evaluation is told, in a step with no other
abbrev pub one_chosen : (d : Standing) (one : Option Evaluated) → IfSome one (MayCome d) → (short : List Bool) → Choices d
one_chosen d one may short = record { short = short; told = one ∷ []; may = (may, tt) }

-- what is told of the first evaluation may come
pub first_may : (d : Standing) (told : Told) → MayAllCome d told → IfSome (told_at told 0) (MayCome d)
first_may d [] all = tt
first_may d (one ∷ told) all = all.0

-- what is chosen for the first call and for those behind it: of the first one, what its own step chose for it
abbrev pub chosen_first : (d : Standing) (first others : Choices d) → Choices d
chosen_first d first others =
    record {
      short = is_short first.short ∷ others.short;
      told = told_at first.told 0 ∷ others.told;
      may = (first_may d first.told first.may, others.may);
    }

-- what is told of an evaluation over an image, where the disk tells one; what was made is then the outcome that is told
pub record Answers {E : Type 0} (d : Standing) (image : Option (List ℕ)) (now : ℕ) (call : List ℕ) (r : Result code.Evaluation E) : Type 0 where
  pub one : Option Evaluated
  pub may : IfSome one (MayCome d)
  pub says : IfOk r (λ e. IfSome image (λ bytes. IsOutcome d bytes (outcome_told one d.database bytes now call) e))

pub answers_of : {E : Type 0} (d : Standing) (image : Option (List ℕ)) (now : ℕ) (call : List ℕ) (r : Result code.Evaluation E) → IfOk r (IsMadeOf d image now call)
    → Answers d image now call r
answers_of d image now call (Err why) made = record { one = None; may = tt; says = tt }
answers_of d None now call (Ok e) made = record { one = None; may = tt; says = tt }
answers_of d (Some bytes) now call (Ok e) made =
    let told : Evaluated = record { image = bytes; moment = now; call = call; outcome = made.outcome } in
    record {
      one = Some told;
      may = made.may;
      says = subst (λ (o : Outcome). IsOutcome d bytes o e) (sym (told_itself d.database told)) made.is;
    }

-- no call leaves a shorter image, whatever is told of it
pub never_less : (d : Standing) → ((image : List ℕ) (now : ℕ) (call : List ℕ) → length image ≤ length (d.database.call image now call).image)
    → (one : Option Evaluated) → IfSome one (MayCome d) → (image : List ℕ) (now : ℕ) (call : List ℕ)
    → length image ≤ length (outcome_told one d.database image now call).image
never_less d grows None may image now call = grows image now call
never_less d grows (Some e) may image now call =
    cond_both (bytes_eq image e.image && now == e.moment && bytes_eq call e.call) _ _ (λ (o : Outcome). length image ≤ length o.image)
    (λ is.
    let parts = and_parts (bytes_eq image e.image) _ (and_parts (bytes_eq image e.image && now == e.moment) _ is).0 in
    subst (λ (i : List ℕ). length i ≤ length e.outcome.image) (sym ((bytes_eq-Decides image e.image).0 parts.0)) may.longer)
    (λ _. grows image now call)
