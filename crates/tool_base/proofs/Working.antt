-- Items, worked through one after the other, and their texts.
use Rattle.std.proofs.Common.{◌≡◌, ℕ, List, [], ◌++◌, Option, Some, None, Result, Ok, Err, refl, sym, ap, ◌∙◌, subst, append_assoc, IfSome}
use Rattle.std.specs.Prelude.{IsErrAnd}
use Rattle.std.proofs.lemmas.List.{append-nil}
use Rattle.io_base.specs.declared.links.Exchange.{Exchange}
use Rattle.tool_base.specs.Course.{◌>>=◌, Asker, Course, gives, says}
use Rattle.tool_base.specs.Ending.{Appended, FrontOf}
use Rattle.tool_base.specs.Running.{Broke, Led, Ran, Told, ToldSome, Under}
use Rattle.tool_base.specs.declared.stops.Stop.{Stop}
use Rattle.tool_base.specs.declared.stops.Stop.TheVariants as stop
use Rattle.tool_base.proofs.Walking.{broke_on, broke_start, led_gave, led_on, led_start, led_went, ran_led, ran_stops}

-- a text, and the course behind it
abbrev pub text_then : {B : Type 0} → Course B → List ℕ → Course B
text_then next text = says text >>= λ said. next

kept : (before after : Option (List ℕ)) (said : List ℕ) → IfSome before (λ text. after ≡ Some (text ++ said))
    → IfSome before (λ text. after ≡ Some (text ++ (said ++ [])))
kept None after said is = tt
kept (Some text) after said is = is ∙ ap (λ (t : List ℕ). Some (text ++ t)) (sym (append-nil said))

added : (before now after : Option (List ℕ)) (said more : List ℕ) → IfSome before (λ text. now ≡ Some (text ++ said))
    → Appended now after more
    → IfSome before (λ text. after ≡ Some (text ++ ((said ++ []) ++ more)))
added None now after said more is appended = tt
added (Some text) now after said more is appended =
    let at : after ≡ Some ((text ++ said) ++ more) = subst (λ (o : Option (List ℕ)). Appended o after more) is appended in
    at ∙ ap (λ (t : List ℕ). Some t) (append_assoc text said more ∙ ap (λ (t : List ℕ). text ++ (t ++ more)) (sym (append-nil said)))

-- nothing was worked through
pub under_start : {A : Type 0} (first : Course A) (s : Asker) (e : List Exchange) (written : Option (List ℕ))
    → Under first s first s e e written written
under_start first s e None = record { said = []; led = led_start first s e; written_is = tt }
under_start first s e (Some text) =
    record { said = []; led = led_start first s e; written_is = ap (λ (t : List ℕ). Some t) (sym (append-nil text)) }

said_leads : {B : Type 0} (next : Course B) (text : List ℕ) (s : Asker) (e : List Exchange) → Led (text_then next text) s e text next s e
unfolding ◌>>=◌
said_leads next text s e = record { made = []; grown = sym (append-nil e); leads = λ rest. refl }

broke_saying : {B : Type 0} (next : Course B) (text said unsaid : List ℕ) (s : Asker) (e : List Exchange) → text ≡ said ++ unsaid
    → Broke (text_then next text) s e said e
unfolding ◌>>=◌
broke_saying next text said unsaid s e is = record {
  made = [];
  grown = sym (append-nil e);
  fronts = λ rest. record {
    more_asks = (next s rest).asks;
    more_text = unsaid ++ (next s rest).text;
    asks_are = refl;
    text_is = ap (λ (t : List ℕ). t ++ (next s rest).text) is ∙ append_assoc said unsaid (next s rest).text;
  };
}

-- an item was worked through, and its text was written
pub under_next : {B : Type 0} (item : Course (List ℕ)) (next first : Course B) (s0 s s1 : Asker) (e0 e e1 : List Exchange)
    (written told after : Option (List ℕ)) (text : List ℕ)
    → Under first s0 (item >>= text_then next) s e0 e written told → Ran item s s1 e e1 (Ok text) → Appended told after text
    → Under first s0 next s1 e0 e1 written after
under_next item next first s0 s s1 e0 e e1 written told after text under ran appended = record {
  said = (under.said ++ []) ++ text;
  led = led_on (led_on under.led (led_gave text (text_then next) (ran_led text refl ran))) (said_leads next text s1 e1);
  written_is = added written told after under.said text under.written_is appended;
}

-- an item ended before its text
pub told_stops : {B : Type 0} (item : Course (List ℕ)) (next first : Course B) (s0 s s1 : Asker) (e0 e e1 : List Exchange)
    (written told : Option (List ℕ)) (why : Stop)
    → Under first s0 (item >>= text_then next) s e0 e written told → Ran item s s1 e e1 (Err why)
    → Told first s0 s1 e0 e1 written told (Err why)
told_stops {B = B} item next first s0 s s1 e0 e e1 written told why under ran =
    let stopped : Ran (item >>= text_then next) s s1 e e1 (Err why) = ran_stops (text_then next) why refl ran in
    record {
      said = under.said ++ [];
      went = led_went s1 e1 [] (Err why) under.led stopped.went;
      written_is = kept written told under.said under.written_is;
    }

-- the text of an item was written in part
pub told_part : {B : Type 0} (item : Course (List ℕ)) (next first : Course B) (s0 s s1 : Asker) (e0 e e1 : List Exchange)
    (written told after : Option (List ℕ)) (text : List ℕ)
    → Under first s0 (item >>= text_then next) s e0 e written told → Ran item s s1 e e1 (Ok text) → FrontOf told after text
    → Told first s0 s1 e0 e1 written after (Err stop.WriteFault)
told_part {B = B} item next first s0 s s1 e0 e e1 written told after text under ran part = record {
  said = (under.said ++ []) ++ part.said;
  went =
      broke_on (led_on under.led (led_gave text (text_then next) (ran_led text refl ran)))
      (broke_saying next text part.said part.unsaid s1 e1 part.text_is);
  written_is = added written told after under.said part.said under.written_is part.appended;
}

-- no item is left
pub told_all : {B : Type 0} (first : Course B) (x : B) (s0 s : Asker) (e0 e : List Exchange) (written told : Option (List ℕ))
    → Under first s0 (gives x) s e0 e written told → Told first s0 s e0 e written told (Ok x)
told_all first x s0 s e0 e written told under = record { said = under.said; went = under.led; written_is = under.written_is }

-- memory ran out before the first item
pub told_short : {A : Type 0} (first : Course A) (s : Asker) (e : List Exchange) (written : Option (List ℕ))
    → Told first s s e e written written (Err stop.NoMemory)
told_short first s e None = record { said = []; went = broke_start first s e; written_is = tt }
told_short first s e (Some text) =
    record { said = []; went = broke_start first s e; written_is = ap (λ (t : List ℕ). Some t) (sym (append-nil text)) }

-- an end that was handed on
pub told_err : {B : Type 0} {first : Course B} {s0 s : Asker} {e0 e : List Exchange} {written told : Option (List ℕ)} (why : Stop)
    (r : Result B Stop)
    → IsErrAnd r (λ (x : Stop). x ≡ why) → Told first s0 s e0 e written told (Err why) → Told first s0 s e0 e written told r
told_err why (Ok x) is ended = absurd is
told_err {B = B} {first = first} {s0 = s0} {s = s} {e0 = e0} {e = e} {written = written} {told = told} why (Err x) is ended =
    subst (λ (w : Stop). let r : Result B Stop = Err w in Told first s0 s e0 e written told r) (sym is) ended

-- memory ran out before anything was asked
pub told_none : {A : Type 0} (first : Course A) (s : Asker) (e : List Exchange) (written : Option (List ℕ)) (r : Result A Stop)
    → IsErrAnd r (λ (x : Stop). x ≡ stop.NoMemory) → ToldSome first s e e written written r
told_none first s e written r is = record { now = s; ran = told_err stop.NoMemory r is (told_short first s e written) }
