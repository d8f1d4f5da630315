-- Lines of calls without an answer, and the replies that are shown.
use Rattle.std.proofs.Common.{cond, ◌==◌, ◌≡◌, ◌⊎◌, inl, inr, ℕ, ◌+◌, ◌≤◌, List, [], ◌∷◌, ◌++◌, length, refl, sym, ap, subst, ◌∙◌, append_assoc, arith}
use Rattle.std.proofs.lemmas.List.{length-append}
use Rattle.std.proofs.lemmas.List.Elements.{filter_map-append, Contains-append_left, Contains-append_right, Contains-append_cases}
use Rattle.std.proofs.lemmas.List.Sums.{sum_by-cons, sum_by-append}
use Rattle.std.specs.Prelude.{Option, Some, None, Contains}
use Rattle.lock_table.specs.declared.tables.TheConstants.{MAX_WAITING}
use Rattle.ubik_calls.specs.declared.replies.Reply.{Reply}
use Rattle.db_image.specs.Database.{Database}
use Rattle.cell_model.specs.declared.events.Output.TheVariants as output
use Rattle.cell_model.specs.Lapse.{flight_refused, waiting_refused}
use Rattle.cell_model.specs.Node.{Flight, Waiting}
use Rattle.cell_model.specs.Step.{Shown}
use Rattle.cell_model.specs.Voters.{IsOkOf}
use Rattle.write_laws.specs.Lines.{call_in_flight, Answer, answer_in, answers_of, IsGiven, AreAnswersTo, GoOn, calls_with, answers_with, LinesCount}

-- ---- replies

pub answers_append : (shown more : List Shown) → answers_of (shown ++ more) ≡ answers_of shown ++ answers_of more
answers_append shown more = filter_map-append (λ (one : Shown). answer_in one.output one.evaluation) shown more

module _ (db : Database) where
  pub told_append : (calls more : List Waiting) (answers others : List Answer) → AreAnswersTo db calls answers → AreAnswersTo db more others →
      AreAnswersTo db (calls ++ more) (answers ++ others)
  told_append [] more [] others first second = second
  told_append [] more (a ∷ answers) others first second = absurd first
  told_append (w ∷ calls) more [] others first second = absurd first
  told_append (w ∷ calls) more (a ∷ answers) others first second = (first.0, told_append calls more answers others first.1 second)

  -- of one part of a step, and then of the next
  pub told_both : (calls more : List Waiting) (shown then : List Shown) → AreAnswersTo db calls (answers_of shown) →
      AreAnswersTo db more (answers_of then) → AreAnswersTo db (calls ++ more) (answers_of (shown ++ then))
  told_both calls more shown then first second =
      subst (AreAnswersTo db (calls ++ more)) (sym (answers_append shown then))
      (told_append calls more (answers_of shown) (answers_of then) first second)

  -- a refusal that is no Ok, and of no database
  abbrev pub IsRefusal : Reply → Type 0
  IsRefusal r = ((id : ℕ) (call : List ℕ) → IsOkOf call (output.Reply id r) None) × IsGiven db r None

  pub waiting_told : (waiting : List Waiting) (r : Reply) → IsRefusal r → AreAnswersTo db waiting (answers_of (waiting_refused waiting r))
  waiting_told [] r refusal = tt
  waiting_told (w ∷ waiting) r refusal =
      (record { id = refl; call = refusal.0 w.id w.call; given = refusal.1 }, waiting_told waiting r refusal)

  pub flight_told : (f : Option Flight) (r : Reply) → IsRefusal r → AreAnswersTo db (call_in_flight f) (answers_of (flight_refused f r))
  flight_told None r refusal = tt
  flight_told (Some f) r refusal = (record { id = refl; call = refusal.0 f.id f.call; given = refusal.1 }, tt)

-- ---- lines

-- parts of a step that answer from the front, and then the event
pub goes_on : (before mid asked first answered after : List Waiting) → before ≡ first ++ mid → GoOn mid asked answered after →
    GoOn before asked (first ++ answered) after
goes_on before mid asked first answered after is (inl rest) =
    inl (ap (λ (l : List Waiting). l ++ asked) is
    ∙ append_assoc first mid asked ∙ ap (λ (l : List Waiting). first ++ l) rest ∙ sym (append_assoc first answered after))
goes_on before mid asked first answered after is (inr rest) =
    inr ((
      first ++ rest.0,
      ap (λ (l : List Waiting). first ++ l) rest.1 ∙ sym (append_assoc first rest.0 asked),
      is ∙ ap (λ (l : List Waiting). first ++ l) rest.2 ∙ sym (append_assoc first rest.0 after),
    ))

pub rest_both : (before mid first second after : List Waiting) → before ≡ first ++ mid → mid ≡ second ++ after →
    before ≡ (first ++ second) ++ after
rest_both before mid first second after one two =
    one ∙ ap (λ (l : List Waiting). first ++ l) two ∙ sym (append_assoc first second after)

-- what waits where no write is in flight
pub without_flight : (f : Option Flight) (waiting : List Waiting) → f ≡ None → call_in_flight f ++ waiting ≡ waiting
without_flight None waiting is = refl
without_flight (Some f) waiting is = absurd (cc)

-- the line grows no longer
pub still_few : (f : Option Flight) (waiting : List Waiting) (g : Option Flight) (later first : List Waiting) →
    length waiting ≤ MAX_WAITING → (f ≡ None → waiting ≡ []) → (g ≡ None → later ≡ []) →
    call_in_flight f ++ waiting ≡ first ++ (call_in_flight g ++ later) → length later ≤ MAX_WAITING
still_few f waiting None later first few idle done is = subst (λ (l : List Waiting). length l ≤ MAX_WAITING) (sym (done refl)) (omega arith)
still_few None waiting (Some g) later first few idle done is =
    let none : waiting ≡ [] = idle refl in
    let all : [] ≡ first ++ (call_in_flight (Some g) ++ later) = sym none ∙ is in
    let longer : length (first ++ (call_in_flight (Some g) ++ later)) ≡ length first + (1 + length later) =
    length-append first (call_in_flight (Some g) ++ later) ∙ ap (λ (n : ℕ). length first + n) (length-append (call_in_flight (Some g)) later) in
    let zero_long : 0 ≡ length (first ++ (call_in_flight (Some g) ++ later)) = ap length all in
    absurd (none_there (length first) (length later) (zero_long ∙ longer))
  where
    none_there : (a b : ℕ) → 0 ≡ a + (1 + b) → ⊥
    none_there a b is = omega arith
still_few (Some f) waiting (Some g) later first few idle done is =
    let left : length (call_in_flight (Some f) ++ waiting) ≡ 1 + length waiting = length-append (call_in_flight (Some f)) waiting in
    let right : length (first ++ (call_in_flight (Some g) ++ later)) ≡ length first + (1 + length later) =
    length-append first (call_in_flight (Some g) ++ later) ∙ ap (λ (n : ℕ). length first + n) (length-append (call_in_flight (Some g)) later) in
    shorter (length waiting) (length first) (length later) (sym left ∙ ap length is ∙ right) few
  where
    shorter : (a b c : ℕ) → 1 + a ≡ b + (1 + c) → a ≤ MAX_WAITING → c ≤ MAX_WAITING
    shorter a b c is few = omega arith

-- where one call had no answer at most one waits
pub one_few : (w : Waiting) (g : Option Flight) (later first : List Waiting) → w ∷ [] ≡ first ++ (call_in_flight g ++ later) →
    length later ≤ MAX_WAITING
one_few w g later first is =
    by (length first) (length (call_in_flight g)) (length later)
    (ap length is ∙ length-append first (call_in_flight g ++ later)
    ∙ ap (λ (n : ℕ). length first + n) (length-append (call_in_flight g) later))
  where
    by : (a b c : ℕ) → 1 ≡ a + (b + c) → c ≤ MAX_WAITING
    by a b c is = omega arith

-- ---- counts

calls_append : (id : ℕ) (calls more : List Waiting) → calls_with id (calls ++ more) ≡ calls_with id calls + calls_with id more
calls_append id calls more = sum_by-append (λ (w : Waiting). cond (w.id == id) 1 0) calls more

told_count : (db : Database) (id : ℕ) (calls : List Waiting) (answers : List Answer) → AreAnswersTo db calls answers →
    answers_with id answers ≡ calls_with id calls
told_count db id [] [] told = refl
told_count db id [] (a ∷ answers) told = absurd told
told_count db id (w ∷ calls) [] told = absurd told
told_count db id (w ∷ calls) (a ∷ answers) told =
    sum_by-cons (λ (b : Answer). cond (b.id == id) 1 0) a answers
    ∙ ap (λ (n : ℕ). cond (n == id) 1 0 + answers_with id answers) told.0.id
    ∙ ap (λ (n : ℕ). cond (w.id == id) 1 0 + n) (told_count db id calls answers told.1)
    ∙ sym (sum_by-cons (λ (v : Waiting). cond (v.id == id) 1 0) w calls)

rest_counts : (id : ℕ) (before asked answered after : List Waiting) → GoOn before asked answered after →
    calls_with id before + calls_with id asked ≡ calls_with id answered + calls_with id after
rest_counts id before asked answered after (inl is) =
    sym (calls_append id before asked) ∙ ap (calls_with id) is ∙ calls_append id answered after
rest_counts id before asked answered after (inr is) =
    let first : calls_with id answered ≡ calls_with id is.0 + calls_with id asked = ap (calls_with id) is.1 ∙ calls_append id is.0 asked in
    let second : calls_with id before ≡ calls_with id is.0 + calls_with id after = ap (calls_with id) is.2 ∙ calls_append id is.0 after in
    omega arith

answered_stands : (before asked answered after : List Waiting) (w : Waiting) → GoOn before asked answered after → Contains answered w →
    Contains (before ++ asked) w
answered_stands before asked answered after w (inl is) there =
    subst (λ (l : List Waiting). Contains l w) (sym is) (Contains-append_left answered after w there)
answered_stands before asked answered after w (inr is) there =
    by (Contains-append_cases is.0 asked w (subst (λ (l : List Waiting). Contains l w) is.1 there))
  where
    by : Contains is.0 w ⊎ Contains asked w → Contains (before ++ asked) w
    by (inl front) =
        Contains-append_left before asked w
        (subst (λ (l : List Waiting). Contains l w) (sym is.2) (Contains-append_left is.0 after w front))
    by (inr last) = Contains-append_right before asked w last

left_stands : (before asked answered after : List Waiting) (w : Waiting) → GoOn before asked answered after → Contains after w →
    Contains (before ++ asked) w
left_stands before asked answered after w (inl is) there =
    subst (λ (l : List Waiting). Contains l w) (sym is) (Contains-append_right answered after w there)
left_stands before asked answered after w (inr is) there =
    Contains-append_left before asked w
    (subst (λ (l : List Waiting). Contains l w) (sym is.2) (Contains-append_right is.0 after w there))

pub lines_count : LinesCount
lines_count db before asked answers after line = record {
  each = λ id.
      rest_counts id before asked line.answered after line.rest
      ∙ ap (λ (n : ℕ). n + calls_with id after) (sym (told_count db id line.answered answers line.told));
  answered_stood = λ w. answered_stands before asked line.answered after w line.rest;
  left_stood = λ w. left_stands before asked line.answered after w line.rest;
}
