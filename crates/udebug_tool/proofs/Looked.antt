-- Hosts that are asked one after the other.
use Rattle.std.proofs.Common.{◌≡◌, ℕ, ◌+◌, ◌<◌, ◌≤◌, suc, add-one, Bool, true, false, List, [], ◌∷◌, ◌++◌, Option, Some, Result, Ok, Err, length, drop, drop-cons, get_or, refl, ap, sym, ◌∙◌, subst, IfSome}
use Rattle.std.specs.Prelude.{◌||◌, is_some, IsErrAnd}
use Rattle.std.proofs.lemmas.List.{append-nil, drop_all}
use Rattle.ubik_types.specs.declared.hosts.Host.{Host}
use Rattle.io_base.specs.declared.links.Exchange.{Exchange}
use Rattle.ubik_calls.specs.declared.replies.DebugIs.{DebugIs}
use Rattle.tool_base.specs.Course.{◌>>=◌, Asker, Course, gives, stops}
use Rattle.tool_base.specs.Ending.{Appended, FrontOf}
use Rattle.tool_base.specs.Running.{Led, Ran, Told, ToldSome, Under}
use Rattle.tool_base.specs.declared.stops.Stop.{Stop}
use Rattle.tool_base.specs.declared.stops.Stop.TheVariants as stop
use Rattle.tool_base.proofs.Walking.{led_gave, led_on, led_went, ran_led, ran_short, ran_still, ran_stops}
use Rattle.tool_base.proofs.Working.{text_then, told_err, told_part, under_next}
use Rattle.udebug_tool.specs.Looking.{looks, looks_at}
use Rattle.udebug_tool.specs.Texts.{seen_text}

-- a step that gave a value, and wrote nothing
under_gave : {A B : Type 0} (item : Course A) (next : A → Course B) (first : Course B) (s0 s s1 : Asker) (e0 e e1 : List Exchange) (written told : Option (List ℕ)) (x : A)
    → Under first s0 (item >>= next) s e0 e written told → Ran item s s1 e e1 (Ok x) → Under first s0 (next x) s1 e0 e1 written told
under_gave item next first s0 s s1 e0 e e1 written told x under ran = record {
  said = under.said;
  led = subst (λ (said : List ℕ). Led first s0 e0 said (next x) s1 e1) (append-nil under.said) (led_on under.led (led_gave x next (ran_led x refl ran)));
  written_is = under.written_is;
}

-- what is left of a course was run, and wrote nothing
under_ran : {B : Type 0} (next first : Course B) (s0 s s1 : Asker) (e0 e e1 : List Exchange) (written told : Option (List ℕ)) (r : Result B Stop)
    → Under first s0 next s e0 e written told → Ran next s s1 e e1 r → Told first s0 s1 e0 e1 written told r
under_ran next first s0 s s1 e0 e e1 written told r under ran = record {
  said = under.said ++ [];
  went = led_went s1 e1 [] r under.led ran.went;
  written_is = subst (λ (said : List ℕ). IfSome written (λ text. told ≡ Some (text ++ said))) (sym (append-nil under.said)) under.written_is;
}

-- a text that is to be written is an item's that asked nothing
under_text : {B : Type 0} (next first : Course B) (text : List ℕ) (s0 s : Asker) (e0 e : List Exchange) (written told : Option (List ℕ))
    → Under first s0 (text_then next text) s e0 e written told → Under first s0 (gives text >>= text_then next) s e0 e written told
unfolding ◌>>=◌
under_text next first text s0 s e0 e written told under = under

at_host : (any : Bool) (hosts : List Host) (i : ℕ) (host : Host) (first : Course (Unit {0})) (s0 s : Asker) (e0 e : List Exchange) (written told : Option (List ℕ))
    → i < length hosts → host ≡ get_or hosts i host → Under first s0 (looks any (drop i hosts)) s e0 e written told
    → Under first s0 (looks any (host ∷ drop (i + 1) hosts)) s e0 e written told
at_host any hosts i host first s0 s e0 e written told low is under =
    let there : drop i hosts ≡ host ∷ drop (i + 1) hosts = rw add-one (drop-cons hosts i host low ∙ ap (λ (h : Host). h ∷ drop (suc i) hosts) (sym is)) in
    subst (λ (hs : List Host). Under first s0 (looks any hs) s e0 e written told) there under

-- what follows a host of which this was seen
abbrev pub behind_host : Bool → Host → List Host → Option DebugIs → Course (Unit {0})
behind_host any host hosts seen = text_then (looks (any || is_some seen) hosts) (seen_text host seen)

seen_at : (any : Bool) (hosts : List Host) (i : ℕ) (host : Host) (first : Course (Unit {0})) (s0 s s1 : Asker) (e0 e e1 : List Exchange) (written told : Option (List ℕ)) (seen : Option DebugIs)
    → i < length hosts → host ≡ get_or hosts i host → Under first s0 (looks any (drop i hosts)) s e0 e written told
    → Ran (looks_at host) s s1 e e1 (Ok seen) → Under first s0 (behind_host any host (drop (i + 1) hosts) seen) s1 e0 e1 written told
seen_at any hosts i host first s0 s s1 e0 e e1 written told seen low is under ran =
    under_gave (looks_at host) (behind_host any host (drop (i + 1) hosts)) first s0 s s1 e0 e e1 written told seen
    (at_host any hosts i host first s0 s e0 e written told low is under) ran

-- memory ran out at a host
pub stopped_at : (any : Bool) (hosts : List Host) (i : ℕ) (host : Host) (first : Course (Unit {0})) (s0 s s1 : Asker) (e0 e e1 : List Exchange) (written told : Option (List ℕ)) (why : Stop) (r : Result (Unit {0}) Stop)
    → i < length hosts → host ≡ get_or hosts i host → Under first s0 (looks any (drop i hosts)) s e0 e written told
    → Ran (looks_at host) s s1 e e1 (Err why) → IsErrAnd r (λ (x : Stop). x ≡ why) → ToldSome first s0 e0 e1 written told r
stopped_at any hosts i host first s0 s s1 e0 e e1 written told why r low is under ran end =
    let next = behind_host any host (drop (i + 1) hosts) in
    record {
      now = s1;
      ran = told_err why r end (under_ran (looks_at host >>= next) first s0 s s1 e0 e e1 written told (Err why)
          (at_host any hosts i host first s0 s e0 e written told low is under) (ran_stops next why refl ran));
    }

-- memory ran out before its text
pub lacked_at : (any : Bool) (hosts : List Host) (i : ℕ) (host : Host) (first : Course (Unit {0})) (s0 s s1 : Asker) (e0 e e1 : List Exchange) (written told : Option (List ℕ)) (seen : Option DebugIs) (r : Result (Unit {0}) Stop)
    → i < length hosts → host ≡ get_or hosts i host → Under first s0 (looks any (drop i hosts)) s e0 e written told
    → Ran (looks_at host) s s1 e e1 (Ok seen) → IsErrAnd r (λ (x : Stop). x ≡ stop.NoMemory) → ToldSome first s0 e0 e1 written told r
lacked_at any hosts i host first s0 s s1 e0 e e1 written told seen r low is under ran end =
    let next = behind_host any host (drop (i + 1) hosts) seen in
    record {
      now = s1;
      ran = told_err stop.NoMemory r end (under_ran next first s0 s1 s1 e0 e1 e1 written told (Err stop.NoMemory)
          (seen_at any hosts i host first s0 s s1 e0 e e1 written told seen low is under ran) (ran_short next s1 e1));
    }

-- its text was written in part
pub said_part_at : (any : Bool) (hosts : List Host) (i : ℕ) (host : Host) (first : Course (Unit {0})) (s0 s s1 : Asker) (e0 e e1 : List Exchange) (written told after : Option (List ℕ)) (seen : Option DebugIs) (text : List ℕ) (r : Result (Unit {0}) Stop)
    → i < length hosts → host ≡ get_or hosts i host → Under first s0 (looks any (drop i hosts)) s e0 e written told
    → Ran (looks_at host) s s1 e e1 (Ok seen) → text ≡ seen_text host seen → FrontOf told after text → IsErrAnd r (λ (x : Stop). x ≡ stop.WriteFault)
    → ToldSome first s0 e0 e1 written after r
said_part_at any hosts i host first s0 s s1 e0 e e1 written told after seen text r low is under ran text_is part end =
    let next = looks (any || is_some seen) (drop (i + 1) hosts) in
    let words = seen_text host seen in
    record {
      now = s1;
      ran = told_err stop.WriteFault r end (told_part (gives words) next first s0 s1 s1 e0 e1 e1 written told after words
          (under_text next first words s0 s1 e0 e1 written told (seen_at any hosts i host first s0 s s1 e0 e e1 written told seen low is under ran))
          (ran_still s1 e1 (Ok words) tt) (subst (λ (t : List ℕ). FrontOf told after t) text_is part));
    }

-- its text was written
pub said_at : (any more : Bool) (hosts : List Host) (i : ℕ) (host : Host) (first : Course (Unit {0})) (s0 s s1 : Asker) (e0 e e1 : List Exchange) (written told after : Option (List ℕ)) (seen : Option DebugIs) (text : List ℕ)
    → i < length hosts → host ≡ get_or hosts i host → Under first s0 (looks any (drop i hosts)) s e0 e written told
    → Ran (looks_at host) s s1 e e1 (Ok seen) → text ≡ seen_text host seen → Appended told after text → more ≡ (any || is_some seen)
    → Under first s0 (looks more (drop (i + 1) hosts)) s1 e0 e1 written after
said_at any more hosts i host first s0 s s1 e0 e e1 written told after seen text low is under ran text_is appended more_is =
    let next = looks (any || is_some seen) (drop (i + 1) hosts) in
    let words = seen_text host seen in
    subst (λ (b : Bool). Under first s0 (looks b (drop (i + 1) hosts)) s1 e0 e1 written after) (sym more_is)
    (under_next (gives words) next first s0 s1 s1 e0 e1 e1 written told after words
    (under_text next first words s0 s1 e0 e1 written told (seen_at any hosts i host first s0 s s1 e0 e e1 written told seen low is under ran))
    (ran_still s1 e1 (Ok words) tt) (subst (λ (t : List ℕ). Appended told after t) text_is appended))

no_more : (any : Bool) (hosts : List Host) (i : ℕ) (was : Bool) (first : Course (Unit {0})) (s0 s : Asker) (e0 e : List Exchange) (written told : Option (List ℕ))
    → length hosts ≤ i → any ≡ was → Under first s0 (looks any (drop i hosts)) s e0 e written told → Under first s0 (looks was []) s e0 e written told
no_more any hosts i was first s0 s e0 e written told high is under =
    subst (λ (b : Bool). Under first s0 (looks b []) s e0 e written told) is
    (subst (λ (hs : List Host). Under first s0 (looks any hs) s e0 e written told) (drop_all i hosts high) under)

-- no host is left, and one has answered
pub all_told : (any : Bool) (hosts : List Host) (i : ℕ) (first : Course (Unit {0})) (s0 s : Asker) (e0 e : List Exchange) (written told : Option (List ℕ))
    → length hosts ≤ i → any ≡ true → Under first s0 (looks any (drop i hosts)) s e0 e written told → ToldSome first s0 e0 e written told (Ok tt)
all_told any hosts i first s0 s e0 e written told high is under = record {
  now = s;
  ran = under_ran (gives tt) first s0 s s e0 e e written told (Ok tt) (no_more any hosts i true first s0 s e0 e written told high is under) (ran_still s e (Ok tt) tt);
}

-- no host is left, and none has answered
pub none_told : (any : Bool) (hosts : List Host) (i : ℕ) (first : Course (Unit {0})) (s0 s : Asker) (e0 e : List Exchange) (written told : Option (List ℕ))
    → length hosts ≤ i → any ≡ false → Under first s0 (looks any (drop i hosts)) s e0 e written told → ToldSome first s0 e0 e written told (Err stop.NoServer)
none_told any hosts i first s0 s e0 e written told high is under = record {
  now = s;
  ran = under_ran (stops stop.NoServer) first s0 s s e0 e e written told (Err stop.NoServer) (no_more any hosts i false first s0 s e0 e written told high is under) (ran_still s e (Err stop.NoServer) tt);
}
