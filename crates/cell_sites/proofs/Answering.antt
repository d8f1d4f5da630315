-- The calls that a server has not answered are calls of the cell, and what it shows answers them.
use Rattle.std.proofs.Common.{◌≡◌, inl, inr, ◌<◌, ◌+◌, ◌-◌, ℕ, zero, suc, List, [], ◌∷◌, ◌++◌, length, get_or, Option, refl, sym, ap, subst, ◌∙◌, arith}
use Rattle.std.proofs.lemmas.List.Elements.{All-nil, All-cons}
use Rattle.std.specs.Prelude.{All}
use Rattle.ubik_calls.specs.declared.replies.Reply.{Reply}
use Rattle.db_image.specs.Database.{Database}
use Rattle.cell_model.specs.declared.events.NodeEvent.{NodeEvent}
use Rattle.cell_model.specs.declared.events.NodeEvent.TheVariants as event
use Rattle.cell_model.specs.declared.events.Output.{Output}
use Rattle.cell_model.specs.declared.events.Output.TheVariants as output
use Rattle.cell_model.specs.Node.{Waiting}
use Rattle.cell_model.specs.Step.{Evaluation, Shown}
use Rattle.cell_model.specs.Voters.{IsOkOf}
use Rattle.write_laws.specs.Lines.{AreAnswersTo, GoOn, IsAnswerTo, IsLine, answers_of, asked_in}
use Rattle.cell_sites.specs.Calls.{AllStandUnder, AnswersOf, AsksOf, StandsUnder, call_under}

-- ---- lists of calls

both_stand : (calls : List (List ℕ)) (a b : List Waiting) → AllStandUnder calls a → AllStandUnder calls b → AllStandUnder calls (a ++ b)
both_stand calls [] b first second = second
both_stand calls (w ∷ a) b first second = (first.0, both_stand calls a b first.1 second)

front_stands : (calls : List (List ℕ)) (a b : List Waiting) → AllStandUnder calls (a ++ b) → AllStandUnder calls a
front_stands calls [] b all = tt
front_stands calls (w ∷ a) b all = (all.0, front_stands calls a b all.1)

back_stands : (calls : List (List ℕ)) (a b : List Waiting) → AllStandUnder calls (a ++ b) → AllStandUnder calls b
back_stands calls [] b all = all
back_stands calls (w ∷ a) b all = back_stands calls a b all.1

asked_stand : (calls : List (List ℕ)) (e : NodeEvent) → AsksOf calls e → AllStandUnder calls (asked_in e)
asked_stand calls (event.Packet p) asks = tt
asked_stand calls event.BeaconTurn asks = tt
asked_stand calls event.RecoverTurn asks = tt
asked_stand calls (event.Ask id call) asks = (asks, tt)

-- ---- one more call

get_front : (calls : List (List ℕ)) (call : List ℕ) (k : ℕ) → k < length calls → get_or (calls ++ call ∷ []) k [] ≡ get_or calls k []
get_front [] call k inside = absurd (omega arith)
get_front (c ∷ calls) call zero inside = refl
get_front (c ∷ calls) call (suc k) inside = get_front calls call k (omega arith)

get_last : (calls : List (List ℕ)) (call : List ℕ) → get_or (calls ++ call ∷ []) (length calls) [] ≡ call
get_last [] call = refl
get_last (c ∷ calls) call = get_last calls call

pub length_more : (calls : List (List ℕ)) (call : List ℕ) → length (calls ++ call ∷ []) ≡ length calls + 1
length_more [] call = refl
length_more (c ∷ calls) call = let rest = length_more calls call in omega (arith, rest)

-- a call that stands there stays under its id
stands_on : (calls : List (List ℕ)) (call : List ℕ) (id : ℕ) (other : List ℕ) → StandsUnder calls id other
    → StandsUnder (calls ++ call ∷ []) id other
stands_on calls call id other stands =
    let more = length_more calls call in
    let some = stands.some in
    let within = stands.within in
    record {
      some = some;
      within = omega (arith, within, more);
      is = get_front calls call (id - 1) (omega (arith, some, within)) ∙ stands.is;
    }

pub all_stand_on : (calls : List (List ℕ)) (call : List ℕ) (waiting : List Waiting) → AllStandUnder calls waiting
    → AllStandUnder (calls ++ call ∷ []) waiting
all_stand_on calls call [] all = tt
all_stand_on calls call (w ∷ waiting) all = (stands_on calls call w.id w.call all.0, all_stand_on calls call waiting all.1)

-- and the new one stands under the next
new_stands : (calls : List (List ℕ)) (call : List ℕ) (id : ℕ) → id ≡ length calls + 1 → StandsUnder (calls ++ call ∷ []) id call
new_stands calls call id next =
    let more = length_more calls call in
    let place : id - 1 ≡ length calls = omega (arith, next) in
    record {
      some = omega (arith, next);
      within = omega (arith, next, more);
      is = ap (λ (k : ℕ). get_or (calls ++ call ∷ []) k []) place ∙ get_last calls call;
    }

pub stands_kept : (before after : List (List ℕ)) (call : List ℕ) (id : ℕ) → after ≡ before ++ call ∷ [] → id ≡ length before + 1
    → StandsUnder after id call
stands_kept before after call id kept next =
    subst (λ (l : List (List ℕ)). StandsUnder l id call) (sym kept) (new_stands before call id next)

-- ---- a step

module _ (db : Database) (calls : List (List ℕ)) where
  -- those that it answers, and those that it leaves
  record Stand (answered after : List Waiting) : Type 0 where
    answers : AllStandUnder calls answered
    rest : AllStandUnder calls after

  goes : (before asked answered after : List Waiting) → AllStandUnder calls before → AllStandUnder calls asked
      → GoOn before asked answered after →
      Stand answered after
  goes before asked answered after first second (inl is) =
      let all = subst (AllStandUnder calls) is (both_stand calls before asked first second) in
      record { answers = front_stands calls answered after all; rest = back_stands calls answered after all }
  goes before asked answered after first second (inr is) =
      let all = subst (AllStandUnder calls) is.2 first in
      record {
        answers = subst (AllStandUnder calls) (sym is.1) (both_stand calls is.0 asked (front_stands calls is.0 after all) second);
        rest = back_stands calls is.0 after all;
      }

  -- an answer to a call that stands there
  one_answers : (w : Waiting) (id : ℕ) (r : Reply) (e : Option Evaluation) → StandsUnder calls w.id w.call →
      IsAnswerTo db w (record { id = id; reply = r; evaluation = e }) → IsOkOf (call_under calls id) (output.Reply id r) e
  one_answers w id r e stands is =
      subst (λ (call : List ℕ). IsOkOf call (output.Reply id r) e)
      (sym stands.is ∙ ap (call_under calls) (sym is.id)) is.call

  -- by what is shown first
  shown_by : (shown : List Shown) →
      ((answered : List Waiting) → AreAnswersTo db answered (answers_of shown) → AllStandUnder calls answered
      → All (AnswersOf calls) shown) →
      (o : Output) (e : Option Evaluation) (answered : List Waiting) →
      AreAnswersTo db answered (answers_of (record { output = o; evaluation = e } ∷ shown)) → AllStandUnder calls answered →
      All (AnswersOf calls) (record { output = o; evaluation = e } ∷ shown)
  shown_by shown rest (output.Send p) e answered told stand =
      All-cons (AnswersOf calls) (record { output = output.Send p; evaluation = e }) shown tt (rest answered told stand)
  shown_by shown rest (output.Announce v) e answered told stand =
      All-cons (AnswersOf calls) (record { output = output.Announce v; evaluation = e }) shown tt (rest answered told stand)
  shown_by shown rest (output.Reply id r) e [] told stand = absurd told
  shown_by shown rest (output.Reply id r) e (w ∷ answered) told stand =
      All-cons (AnswersOf calls) (record { output = output.Reply id r; evaluation = e }) shown (one_answers w id r e stand.0 told.0)
      (rest answered told.1 stand.1)

  answers_shown : (shown : List Shown) (answered : List Waiting) → AreAnswersTo db answered (answers_of shown)
      → AllStandUnder calls answered →
      All (AnswersOf calls) shown
  answers_shown [] answered told stand = All-nil (AnswersOf calls)
  answers_shown (one ∷ shown) answered told stand = shown_by shown (answers_shown shown) one.output one.evaluation answered told stand

  -- what a step shows answers calls of the cell, and those that it leaves are such
  pub record Line (shown : List Shown) (after : List Waiting) : Type 0 where
    pub answers : All (AnswersOf calls) shown
    pub rest : AllStandUnder calls after

  pub line_stands : (before : List Waiting) (e : NodeEvent) (shown : List Shown) (after : List Waiting) → AllStandUnder calls before
      → AsksOf calls e →
      IsLine db before (asked_in e) (answers_of shown) after → Line shown after
  line_stands before e shown after first asks line =
      let stand = goes before (asked_in e) line.answered after first (asked_stand calls e asks) line.rest in
      record { answers = answers_shown shown line.answered line.told stand.answers; rest = stand.rest }
