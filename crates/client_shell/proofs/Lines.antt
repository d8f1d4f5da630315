-- The lines of a source, one behind the other.
use Rattle.std.proofs.Common.{◌≡◌, ◌≢◌, ◌+◌, ◌<◌, ◌≤◌, ◌∙◌, ℕ, nat_lt, Bool, true, false, List, [], ◌∷◌, ◌++◌, length, Option, Some, None, IfSome, refl, sym, ap, subst, inl, inr, arith, append_assoc}
use Rattle.std.proofs.lemmas.Bool.Decides.{nat_tests}
use Rattle.std.proofs.lemmas.List.{length_push}
use Rattle.cell_script.specs.LineLaws.{BeginsLine, last_line, lines_of-front, lines_of-line, lines_of-part}
use Rattle.cell_script.specs.Lines.{HasNoLf, IsFirstLine, TakesPart, lines_of}
use Rattle.afs_words.specs.declared.tables.Tool.{Tool}
use Rattle.command_lines.specs.declared.lines.TheConstants.{MAX_COMMAND}
use Rattle.client_shell.specs.Runs.{Refused}
use Rattle.client_shell.specs.Sources.{DoneUnlessLong, Ends, IsNamed, LineDone, LineWithin, LinesDone, SourceRan}
use Rattle.client_shell.specs.Standing.{Begun, Standing}
use Rattle.client_shell.specs.Turns.{LineTaken, TurnEnds, Turned}
use Rattle.client_shell.specs.declared.refusals.TheConstants.{LONG_LINE}

last_is : (line rest : List ℕ) → 0 < length line → rest ≡ [] → last_line line ≡ line ∷ lines_of rest
last_is [] rest some none = absurd (omega arith)
last_is (b ∷ line) rest some none = ap (λ (r : List ℕ). (b ∷ line) ∷ lines_of r) (sym none)

-- a line that was read is the first of those that were left
pub first_line : (ended : Bool) (text line rest : List ℕ) → HasNoLf line → IsFirstLine ended text line rest
    → lines_of text ≡ line ∷ lines_of rest
first_line false text line rest no_lf read = ap lines_of read ∙ lines_of-line line rest no_lf
first_line true text line rest no_lf read = ap lines_of read.0 ∙ lines_of-part line no_lf ∙ last_is line rest read.2 read.1

-- so is the line of which a part was read
front_of : (part rest : List ℕ) → HasNoLf part → 0 < length part → BeginsLine (part ++ rest) part
front_of [] rest no_lf some = absurd (omega arith)
front_of (b ∷ part) rest no_lf some = lines_of-front b part rest no_lf

pub first_front : (text : List ℕ) (after : Option (List ℕ)) (t : TakesPart text after) → 0 < length t.part →
    (more : List ℕ) × (later : List (List ℕ)) × (lines_of text ≡ (t.part ++ more) ∷ later)
first_front text after t some =
    let begins = front_of t.part t.rest t.no_lf some in (begins.more, begins.later, ap lines_of t.read ∙ begins.lines)

ended_rest : (now : Bool) (text line rest : List ℕ) → IsFirstLine now text line rest → now ≡ true → rest ≡ []
ended_rest false text line rest first is = cc
ended_rest true text line rest first is = first.1

-- a line that is longer than the reader takes, and one that is not
pub done_long : (begun : Begun) (tool : Tool) (hosts line : List ℕ) (before after : Standing) (status : ℕ) → MAX_COMMAND < length line →
    Refused tool LONG_LINE.now before after status → LineDone begun tool hosts line before after status
done_long begun tool hosts line before after status long refused =
    let test : nat_lt MAX_COMMAND (length line) ≡ true = grind (arith, nat_tests) in
    subst (λ (b : Bool). DoneUnlessLong begun b tool hosts line before after status) (sym test) refused

pub done_within : (begun : Begun) (tool : Tool) (hosts line : List ℕ) (before after : Standing) (status : ℕ) → length line ≤ MAX_COMMAND →
    LineWithin begun tool hosts line before after status → LineDone begun tool hosts line before after status
done_within begun tool hosts line before after status within done =
    let test : nat_lt MAX_COMMAND (length line) ≡ false = grind (arith, nat_tests) in
    subst (λ (b : Bool). DoneUnlessLong begun b tool hosts line before after status) (sym test) done

-- one line more
done_more : (begun : Begun) (tool : Tool) (hosts : List ℕ) (lines : List (List ℕ)) (line : List ℕ) (before middle after : Standing) →
    LinesDone begun tool hosts lines before middle → LineDone begun tool hosts line middle after 0
    → LinesDone begun tool hosts (lines ++ line ∷ []) before after
done_more begun tool hosts [] line before middle after ran done =
    (after, subst (λ (s : Standing). LineDone begun tool hosts line s after 0) ran done, refl)
done_more begun tool hosts (first ∷ lines) line before middle after (between, one, others) done =
    (between, one, done_more begun tool hosts lines line between middle after others done)

-- the lines of a text so far, of which each ended with 0, and what is left of it
pub record SoFar (begun : Begun) (tool : Tool) (hosts text : List ℕ) (number : ℕ) (ended : Bool) (left : Option (List ℕ))
    (before now : Standing) : Type 0 where
  pub lines : List (List ℕ)
  pub rest : List ℕ
  pub text_is : lines_of text ≡ lines ++ lines_of rest
  pub count : number ≡ length lines + 1
  pub remains : left ≡ Some rest
  pub no_more : ended ≡ true → rest ≡ []
  pub ran : LinesDone begun tool hosts lines before now

-- a fact of what was left, where it is known
of_left : (P : List ℕ → Type 0) (left : Option (List ℕ)) (rest : List ℕ) → left ≡ Some rest → IfSome left P → P rest
of_left P left rest remains fact = subst (λ (o : Option (List ℕ)). IfSome o P) remains fact

module _ (begun : Begun) (tool : Tool) (hosts : List ℕ) where
  pub first_so_far : (left : Option (List ℕ)) (ended : Bool) (at : Standing) → ended ≡ false →
      IfSome left (λ text. SoFar begun tool hosts text 1 ended left at at)
  first_so_far None ended at going = tt
  first_so_far (Some text) ended at going = record {
    lines = [];
    rest = text;
    text_is = refl;
    count = refl;
    remains = refl;
    no_more = λ is. absurd (let never : false ≡ true = sym going ∙ is in cc);
    ran = refl;
  }

  more_so_far : (text : List ℕ) (number : ℕ) (was now : Bool) (left later : Option (List ℕ)) (before middle after : Standing) →
      (so : SoFar begun tool hosts text number was left before middle) → LineTaken begun tool hosts was so.rest later now middle after →
      SoFar begun tool hosts text (number + 1) now later before after
  more_so_far text number was now left later before middle after so one = record {
    lines = so.lines ++ one.line ∷ [];
    rest = one.taken.rest;
    text_is =
        so.text_is ∙ ap (λ (m : List (List ℕ)). so.lines ++ m)
        (first_line now so.rest one.line one.taken.rest one.taken.no_lf one.taken.read)
        ∙ sym (append_assoc so.lines (one.line ∷ []) (lines_of one.taken.rest));
    count = omega (arith, length_push so.lines one.line, so.count);
    remains = one.taken.left;
    no_more = ended_rest now so.rest one.line one.taken.rest one.taken.read;
    ran = done_more begun tool hosts so.lines one.line before middle after so.ran one.done;
  }

  pub so_far_on : (first : Option (List ℕ)) (number : ℕ) (failed : Type 0) (was now : Bool) (left later : Option (List ℕ))
      (before middle after : Standing) (r : Option ℕ) → r ≡ None →
      IfSome first (λ text. SoFar begun tool hosts text number was left before middle) →
      IfSome left (λ rest. Turned begun tool hosts number failed was rest later now middle after r) →
      IfSome first (λ text. SoFar begun tool hosts text (number + 1) now later before after)
  so_far_on None number failed was now left later before middle after r none so one = tt
  so_far_on (Some text) number failed was now left later before middle after r none so one =
      let turned = of_left
      (λ (rest : List ℕ). Turned begun tool hosts number failed was rest later now middle after r) left so.rest so.remains one in
      more_so_far text number was now left later before middle after so
      (subst (λ (o : Option ℕ). Turned begun tool hosts number failed was so.rest later now middle after o) none turned)

  -- ---- no line more

  ends_since : (number : ℕ) (failed failed_since : Type 0) (rest : List ℕ) (later : Option (List ℕ)) (before after : Standing)
      (status : ℕ) →
      (failed → failed_since) → Ends begun tool hosts number failed rest later before after status →
      Ends begun tool hosts number failed_since rest later before after status
  ends_since number failed failed_since rest later before after status since (inl all) = inl all
  ends_since number failed failed_since rest later before after status since (inr (inl line)) = inr (inl line)
  ends_since number failed failed_since rest later before after status since (inr (inr (inl read))) =
      inr (inr (inl (record {
        fault = since read.fault;
        between = read.between;
        own = read.own;
        refused = read.refused;
        named =
            read.named;
      })))
  ends_since number failed failed_since rest later before after status since (inr (inr (inr short))) = inr (inr (inr short))

  turn_ends : (number : ℕ) (failed : Type 0) (was : Bool) (rest : List ℕ) (later : Option (List ℕ)) (before after : Standing) (status : ℕ) →
      (was ≡ true → rest ≡ []) → TurnEnds begun tool hosts number failed was rest later before after status →
      Ends begun tool hosts number failed rest later before after status
  turn_ends number failed false rest later before after status no_more ends = ends
  turn_ends number failed true rest later before after status no_more ends = ends (no_more refl)

  pub ran_to : (first : Option (List ℕ)) (number : ℕ) (failed failed_since : Type 0) (was : Bool) (left later : Option (List ℕ))
      (before middle after : Standing) (status : ℕ) → (failed → failed_since) →
      IfSome first (λ text. SoFar begun tool hosts text number was left before middle) →
      IfSome left (λ rest. TurnEnds begun tool hosts number failed was rest later middle after status) →
      IfSome first (λ text. SourceRan begun tool hosts text failed_since later before after status)
  ran_to None number failed failed_since was left later before middle after status since so ends = tt
  ran_to (Some text) number failed failed_since was left later before middle after status since so ends =
      let last = of_left (λ (rest : List ℕ). TurnEnds begun tool hosts number failed was rest later middle after status) left so.rest
      so.remains ends in
      let ended = turn_ends number failed was so.rest later middle after status so.no_more last in
      record {
        lines = so.lines;
        rest = so.rest;
        text_is = so.text_is;
        between = middle;
        ran = so.ran;
        ends = subst (λ (n : ℕ). Ends begun tool hosts n failed_since so.rest later middle after status) so.count
            (ends_since number failed failed_since so.rest later middle after status since ended);
      }

  -- memory ran out, between two lines or before the first
  pub ran_short : (first : Option (List ℕ)) (number : ℕ) (failed : Type 0) (was : Bool) (left : Option (List ℕ)) (before now : Standing)
      (status : ℕ) →
      status ≡ 5 → IfSome first (λ text. SoFar begun tool hosts text number was left before now) →
      IfSome first (λ text. SourceRan begun tool hosts text failed left before now status)
  ran_short None number failed was left before now status is so = tt
  ran_short (Some text) number failed was left before now status is so = record {
    lines = so.lines;
    rest = so.rest;
    text_is = so.text_is;
    between = now;
    ran = so.ran;
    ends = inr (inr (inr (is, refl)));
  }

  -- ---- a status of 0

  named_bad : (number own : ℕ) (before after : Standing) (status : ℕ) → IsNamed tool number own before after status → status ≢ 0
  named_bad number own before after status named = λ none. elim named.named [
    | inl same ↦ named.bad (sym same.0 ∙ none)
    | inr other ↦ elim other [
      | inl four ↦ absurd (omega (arith, four, none))
      | inr five ↦ absurd (omega (arith, five, none))
    ]
  ]

  whole_at : (number : ℕ) (failed : Type 0) (rest : List ℕ) (later : Option (List ℕ)) (before after : Standing) (status : ℕ) → status ≡ 0 →
      Ends begun tool hosts number failed rest later before after status → later ≡ Some []
  whole_at number failed rest later before after status well (inl all) = all.read
  whole_at number failed rest later before after status well (inr (inl line)) =
      absurd (named_bad number line.own line.between after status line.named well)
  whole_at number failed rest later before after status well (inr (inr (inl read))) =
      absurd (named_bad number read.own read.between after status read.named well)
  whole_at number failed rest later before after status well (inr (inr (inr short))) = absurd (omega (arith, short.0, well))

  pub read_whole : (first : Option (List ℕ)) (failed : Type 0) (later : Option (List ℕ)) (before after : Standing) (status : ℕ)
      → status ≡ 0 →
      IfSome first (λ text. SourceRan begun tool hosts text failed later before after status) → IfSome first (λ _. later ≡ Some [])
  read_whole None failed later before after status well ran = tt
  read_whole (Some text) failed later before after status well ran =
      whole_at (length ran.lines + 1) failed ran.rest later ran.between after status well ran.ends
