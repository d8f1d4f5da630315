-- A whole command, from how its course went and what was said of its end.
use Rattle.std.proofs.Common.{◌≡◌, ℕ, ◌+◌, ◌<◌, ◌≤◌, arith, List, [], ◌∷◌, ◌++◌, Option, Some, Result, Ok, Err, refl, sym, ap, ◌∙◌, subst, IfSome}
use Rattle.std.specs.Prelude.{◌≢◌}
use Rattle.std.proofs.lemmas.List.{append-nil}
use Rattle.disk_base.specs.Count.{HasCause}
use Rattle.io_base.specs.declared.links.Exchange.{Exchange}
use Rattle.tool_base.specs.Course.{Asker, Course, Walk, asks_in, behind, still}
use Rattle.tool_base.specs.Ending.{Appended, BrokeOff, CameToItsEnd, Commanded, FrontOf}
use Rattle.tool_base.specs.Running.{Broke, Fronts, Led, ToldSome, Went}
use Rattle.tool_base.specs.Stops.{end_line, status_of}
use Rattle.tool_base.specs.Writing.{SaysEnd}
use Rattle.tool_base.specs.declared.stops.Stop.{Stop}
use Rattle.tool_base.specs.declared.stops.Stop.TheVariants.{Refused, NoServer, OutcomeUnknown, WriteFault, NoMemory}

-- over the exchanges that were made the course ends so
walked : {A : Type 0} (course : Course A) (r : Result A Stop) (s s1 : Asker) (e e1 : List Exchange) (said : List ℕ)
    (led : Led course s e said (still r) s1 e1)
    → course s led.made ≡ behind (asks_in led.made) said (still r s1 [])
walked course r s s1 e e1 said led = ap (course s) (sym (append-nil led.made)) ∙ led.leads []

wrote : (before after : Option (List ℕ)) (said text : List ℕ) → text ≡ said ++ [] → IfSome before (λ old. after ≡ Some (old ++ said))
    → Appended before after text
wrote before after said text is written = subst (λ (t : List ℕ). Appended before after t) (sym (is ∙ append-nil said)) written

came : (tool : List ℕ) (course : Course (Unit {0})) (r : Result (Unit {0}) Stop) (s s1 : Asker) (e e1 : List Exchange) (said : List ℕ)
    (out out1 err err1 : Option (List ℕ))
    (led : Led course s e said (still r) s1 e1) → IfSome out (λ text. out1 ≡ Some (text ++ said)) → Appended err err1 (end_line tool r)
    → CameToItsEnd tool (course s led.made) led.made r out out1 err err1
came tool course r s s1 e e1 said out out1 err err1 led written ended =
    let walk = walked course r s s1 e e1 said led in
    record {
      asks_are = ap (λ (w : Walk (Unit {0})). w.asks) walk ∙ append-nil (asks_in led.made);
      ends_so = ap (λ (w : Walk (Unit {0})). w.result) walk;
      out_is = wrote out out1 said (course s led.made).text (ap (λ (w : Walk (Unit {0})). w.text) walk) written;
      err_is = ended;
    }

nothing_front_by : (before after : Option (List ℕ)) (said unsaid text : List ℕ) → [] ≡ said ++ unsaid → Appended before after said
    → FrontOf before after text
nothing_front_by before after [] unsaid text is appended = record { said = []; unsaid = text; text_is = refl; appended = appended }
nothing_front_by before after (x ∷ said) unsaid text is appended = cc

-- a front of nothing is a front of each text
nothing_front : (before after : Option (List ℕ)) (text : List ℕ) → FrontOf before after [] → FrontOf before after text
nothing_front before after text front = nothing_front_by before after front.said front.unsaid text front.text_is front.appended

-- its end was not told whole
ended_part : (tool : List ℕ) (course : Course (Unit {0})) (r : Result (Unit {0}) Stop) (s s1 : Asker) (e e1 : List Exchange)
    (said : List ℕ) (out out1 err err1 : Option (List ℕ))
    (led : Led course s e said (still r) s1 e1) → IfSome out (λ text. out1 ≡ Some (text ++ said)) → FrontOf err err1 (end_line tool r)
    → BrokeOff tool (course s led.made) led.made out out1 err err1
ended_part tool course r s s1 e e1 said out out1 err err1 led written front =
    let walk = walked course r s s1 e e1 said led in
    record {
      more_asks = [];
      asks_are = ap (λ (w : Walk (Unit {0})). w.asks) walk;
      out_is = record { said = said; unsaid = []; text_is = ap (λ (w : Walk (Unit {0})). w.text) walk; appended = written };
      err_is =
          subst (λ (q : Result (Unit {0}) Stop). FrontOf err err1 (end_line tool q))
          (sym (ap (λ (w : Walk (Unit {0})). w.result) walk)) front;
    }

-- it was left on its way
left_part : (tool : List ℕ) (course : Course (Unit {0})) (s : Asker) (e e1 : List Exchange) (said : List ℕ)
    (out out1 err err1 : Option (List ℕ))
    (broke : Broke course s e said e1) → IfSome out (λ text. out1 ≡ Some (text ++ said)) → FrontOf err err1 []
    → BrokeOff tool (course s broke.made) broke.made out out1 err err1
left_part tool course s e e1 said out out1 err err1 broke written front =
    let fronts : Fronts (asks_in broke.made) said (course s broke.made)
    = subst (λ (es : List Exchange). Fronts (asks_in broke.made) said (course s es)) (append-nil broke.made) (broke.fronts []) in
    record {
      more_asks = fronts.more_asks;
      asks_are = fronts.asks_are;
      out_is = record { said = said; unsaid = fronts.more_text; text_is = fronts.text_is; appended = written };
      err_is = nothing_front err err1 (end_line tool (course s broke.made).result) front;
    }

-- a course that broke off, or of whose end not all was told
pub record Parted (tool : List ℕ) (course : Course (Unit {0})) (s : Asker) (e e1 : List Exchange)
    (out out1 err err1 : Option (List ℕ)) : Type 0 where
  pub made : List Exchange
  pub grown : e1 ≡ e ++ made
  pub broke : BrokeOff tool (course s made) made out out1 err err1

parted : (tool : List ℕ) (course : Course (Unit {0})) (s s1 : Asker) (e e1 : List Exchange) (said : List ℕ)
    (out out1 err err1 : Option (List ℕ)) (end : Result (Unit {0}) Stop)
    → Went end course s e said s1 e1 → IfSome out (λ text. out1 ≡ Some (text ++ said)) → FrontOf err err1 (end_line tool end)
    → Parted tool course s e e1 out out1 err err1
parted tool course s s1 e e1 said out out1 err err1 (Ok x) went written front =
    record {
      made = went.made;
      grown = went.grown;
      broke = ended_part tool course
          (Ok x) s s1 e e1 said out out1 err err1 went written front;
    }
parted tool course s s1 e e1 said out out1 err err1 (Err (Refused refusal)) went written front =
    record {
      made = went.made;
      grown = went.grown;
      broke = ended_part tool course
          (Err (Refused refusal)) s s1 e e1 said out out1 err err1 went written front;
    }
parted tool course s s1 e e1 said out out1 err err1 (Err NoServer) went written front =
    record {
      made = went.made;
      grown = went.grown;
      broke = ended_part tool course
          (Err NoServer) s s1 e e1 said out out1 err err1 went written front;
    }
parted tool course s s1 e e1 said out out1 err err1 (Err OutcomeUnknown) went written front =
    record {
      made = went.made;
      grown = went.grown;
      broke = ended_part tool course
          (Err OutcomeUnknown) s s1 e e1 said out out1 err err1 went written front;
    }
parted tool course s s1 e e1 said out out1 err err1 (Err WriteFault) went written front =
    record { made = went.made; grown = went.grown; broke = left_part tool course s e e1 said out out1 err err1 went written front }
parted tool course s s1 e e1 said out out1 err err1 (Err NoMemory) went written front =
    record { made = went.made; grown = went.grown; broke = left_part tool course s e e1 said out out1 err err1 went written front }

abbrev pub Ends : List ℕ → Course (Unit {0}) → Asker → List Exchange → List Exchange → Option (List ℕ) → Option (List ℕ)
    → Option (List ℕ) → Option (List ℕ) → Result (Unit {0}) Stop → Type 0
Ends tool course s e e1 out out1 err err1 end = ToldSome course s e e1 out out1 end × Appended err err1 (end_line tool end)

-- the end of the course and the end that was told are one
same_end : (tool : List ℕ) (course : Course (Unit {0})) (s : Asker) (e e1 : List Exchange) (out out1 err err1 : Option (List ℕ))
    (end left : Result (Unit {0}) Stop)
    → ToldSome course s e e1 out out1 end → (left ≡ end) × Appended err err1 (end_line tool end)
    → Ends tool course s e e1 out out1 err err1 left
same_end tool course s e e1 out out1 err err1 end left told says =
    subst (λ (r : Result (Unit {0}) Stop). Ends tool course s e e1 out out1 err err1 r) (sym says.0) (told, says.1)

pub commanded : (tool : List ℕ) (course : Course (Unit {0})) (s : Asker) (e e1 : List Exchange) (status : ℕ)
    (out out1 err err1 : Option (List ℕ)) (end left : Result (Unit {0}) Stop)
    → status ≡ status_of left → ToldSome course s e e1 out out1 end → SaysEnd tool end left err err1
    → Commanded tool course s e e1 status out out1 err err1
commanded tool course s e e1 status out out1 err err1 end (Ok x) is told says =
    let ends = same_end tool course s e e1 out out1 err err1 end (Ok x) told says.said in
    let ran = ends.0.ran in
    record {
      made = ran.went.made;
      grown = ran.went.grown;
      end = Ok x;
      status_is = is;
      came = came tool course (Ok x) s ends.0.now e e1 ran.said out out1 err err1 ran.went ran.written_is ends.1;
    }
commanded tool course s e e1 status out out1 err err1 end (Err (Refused refusal)) is told says =
    let ends = same_end tool course s e e1 out out1 err err1 end (Err (Refused refusal)) told says.said in
    let ran = ends.0.ran in
    record {
      made = ran.went.made;
      grown = ran.went.grown;
      end = Err (Refused refusal);
      status_is = is;
      came = came tool course (Err (Refused refusal)) s ends.0.now e e1 ran.said out out1 err err1 ran.went ran.written_is ends.1;
    }
commanded tool course s e e1 status out out1 err err1 end (Err NoServer) is told says =
    let ends = same_end tool course s e e1 out out1 err err1 end (Err NoServer) told says.said in
    let ran = ends.0.ran in
    record {
      made = ran.went.made;
      grown = ran.went.grown;
      end = Err NoServer;
      status_is = is;
      came = came tool course (Err NoServer) s ends.0.now e e1 ran.said out out1 err err1 ran.went ran.written_is ends.1;
    }
commanded tool course s e e1 status out out1 err err1 end (Err OutcomeUnknown) is told says =
    let ends = same_end tool course s e e1 out out1 err err1 end (Err OutcomeUnknown) told says.said in
    let ran = ends.0.ran in
    record {
      made = ran.went.made;
      grown = ran.went.grown;
      end = Err OutcomeUnknown;
      status_is = is;
      came = came tool course (Err OutcomeUnknown) s ends.0.now e e1 ran.said out out1 err err1 ran.went ran.written_is ends.1;
    }
commanded tool course s e e1 status out out1 err err1 end (Err WriteFault) is told says =
    let part = parted tool course s told.now e e1 told.ran.said out out1 err err1 end told.ran.went told.ran.written_is says.said in
    record { made = part.made; grown = part.grown; end = Err WriteFault; status_is = is; came = part.broke }
commanded tool course s e e1 status out out1 err err1 end (Err NoMemory) is told says =
    let part = parted tool course s told.now e e1 told.ran.said out out1 err err1 end told.ran.went told.ran.written_is says.said in
    record { made = part.made; grown = part.grown; end = Err NoMemory; status_is = is; came = part.broke }

rose_by : (a b c d : ℕ) (end : Result (Unit {0}) Stop) → a ≤ b → c ≤ d → (end ≡ Err WriteFault → a < b) → (end ≢ Err WriteFault → c < d)
    → a + c < b + d
rose_by a b c d (Ok x) first second here there = let rose = there (λ is. cc) in omega arith
rose_by a b c d (Err (Refused refusal)) first second here there = let rose = there (λ is. cc) in omega arith
rose_by a b c d (Err NoServer) first second here there = let rose = there (λ is. cc) in omega arith
rose_by a b c d (Err OutcomeUnknown) first second here there = let rose = there (λ is. cc) in omega arith
rose_by a b c d (Err WriteFault) first second here there = let rose = here refl in omega arith
rose_by a b c d (Err NoMemory) first second here there = let rose = there (λ is. cc) in omega arith

is_fault : (left : Result (Unit {0}) Stop) → status_of left ≡ 4 → left ≡ Err WriteFault
is_fault (Ok x) is = let no : ◌≡◌ {A = ℕ} 0 4 = is in absurd (omega arith)
is_fault (Err (Refused refusal)) is = let no : ◌≡◌ {A = ℕ} 1 4 = is in absurd (omega arith)
is_fault (Err NoServer) is = let no : ◌≡◌ {A = ℕ} 3 4 = is in absurd (omega arith)
is_fault (Err OutcomeUnknown) is = let no : ◌≡◌ {A = ℕ} 6 4 = is in absurd (omega arith)
is_fault (Err WriteFault) is = refl
is_fault (Err NoMemory) is = let no : ◌≡◌ {A = ℕ} 5 4 = is in absurd (omega arith)

-- a command ends so only where the count of one of both sinks rose
pub caused : (a b c d status : ℕ) (end left : Result (Unit {0}) Stop) → status ≡ status_of left → HasCause a b (end ≡ Err WriteFault)
    → HasCause c d ((end ≢ Err WriteFault) × (left ≡ Err WriteFault)) → HasCause (a + c) (b + d) (status ≡ 4)
caused a b c d status end left is first second =
    let one = first.never_falls in
    let two = second.never_falls in
    record {
      never_falls = omega arith;
      rose = λ four. rose_by a b c d end first.never_falls second.never_falls first.rose
          (λ other. second.rose (other, is_fault left (sym is ∙ four)));
    }
