-- What the reading and running of one line leaves.
use Rattle.std.proofs.Common.{◌≡◌, ◌≢◌, ◌<◌, ◌∙◌, ℕ, Bool, true, false, List, ◌++◌, length, Option, Some, None, IfSome, refl, sym, ap, ap₂, subst, inl, inr, arith, length-append}
use Rattle.io_base.specs.declared.links.Exchange.{Exchange}
use Rattle.cell_script.specs.Lines.{ReadsLine, lines_of}
use Rattle.cell_script.specs.declared.readers.LineEnd.{LineEnd}
use Rattle.cell_script.specs.declared.readers.LineEnd.TheVariants as line_end
use Rattle.afs_words.specs.declared.tables.Tool.{Tool}
use Rattle.command_lines.specs.declared.lines.TheConstants.{MAX_COMMAND}
use Rattle.client_shell.specs.Runs.{Refused}
use Rattle.client_shell.specs.Sources.{IsNamed, LineDone, LineWithin}
use Rattle.client_shell.specs.Standing.{Begun, Standing, standing}
use Rattle.client_shell.specs.Turns.{NamedUnlessWell, Turned}
use Rattle.client_shell.specs.declared.refusals.TheConstants.{LONG_LINE, NO_READ}
use Rattle.client_shell.proofs.Lines.{done_long, done_within, first_front, first_line}
use Rattle.client_shell.proofs.Telling.{caused_second}

-- a source that did not end just now had not ended before
pub was_going : (was : Bool) (end : LineEnd) → end ≢ line_end.End → (was ≡ true → end ≡ line_end.End) → was ≡ false
was_going false end other ended = refl
was_going true end other ended = absurd (other (ended refl))

-- the lines go on, or the last of them was named
abbrev GoesOn : Tool → ℕ → ℕ → Standing → Standing → Option ℕ → Type 0
GoesOn tool number own before after None = (own ≡ 0) × (after ≡ before)
GoesOn tool number own before after (Some status) = IsNamed tool number own before after status

goes_on : (tool : Tool) (number own : ℕ) (kept : List Exchange) (out before after : Option (List ℕ)) (others faults faults_after : ℕ)
    (r : Option ℕ) →
    NamedUnlessWell tool number own before after faults faults_after r →
    GoesOn tool number own (standing kept out before others faults) (standing kept out after others faults_after) r
goes_on tool number own kept out before after others faults faults_after None well =
    (well.0, ap₂ (λ (e : Option (List ℕ)) (n : ℕ). standing kept out e others n) well.1 well.2)
goes_on tool number own kept out before after others faults faults_after (Some status) named = record {
  bad = named.0;
  unasked = refl;
  untold = refl;
  named = named.1;
  cause = caused_second faults faults_after others named.2 (λ is. is);
}

module _ (begun : Begun) (tool : Tool) (hosts : List ℕ) (number : ℕ) (failed : Type 0) (now : Bool) (later : Option (List ℕ)) where
  -- the source has ended, just now or before
  pub turned_end : (was : Bool) (left : Option (List ℕ)) (line : List ℕ) (at : Standing) →
      (was ≡ false → IfSome left (λ text. ReadsLine MAX_COMMAND line_end.End text later line now)) → (was ≡ true → later ≡ left) →
      IfSome left (λ text. Turned begun tool hosts number failed was text later now at at (Some 0))
  turned_end was None line at told ended = tt
  turned_end false (Some text) line at told ended =
      inl (record { no_more = (told refl).1; read = (told refl).2; well = refl; still = refl })
  turned_end true (Some text) line at told ended = λ none.
      inl (record { no_more = none; read = ended refl ∙ ap (λ (t : List ℕ). Some t) none; well = refl; still = refl })

  line_turned : (text line : List ℕ) (before between after : Standing) (own : ℕ) (r : Option ℕ) →
      ReadsLine MAX_COMMAND line_end.Line text later line now → LineWithin begun tool hosts line before between own
      → GoesOn tool number own between after r →
      Turned begun tool hosts number failed false text later now before after r
  line_turned text line before between after own None read done goes = record {
    going = refl;
    line = line;
    taken = read;
    done = subst (λ (s : Standing). LineDone begun tool hosts line before s 0) (sym goes.1)
        (subst (λ (n : ℕ). LineDone begun tool hosts line before between n) goes.0
        (done_within begun tool hosts line before between own read.bound done));
  }
  line_turned text line before between after own (Some status) read done goes = inr (inl (record {
    line = line;
    later = lines_of read.rest;
    first = first_line now text line read.rest read.no_lf read.read;
    between = between;
    own = own;
    done = done_within begun tool hosts line before between own read.bound done;
    named = goes;
  }))

  long_turned : (text line : List ℕ) (before between after : Standing) (own : ℕ) (r : Option ℕ) →
      ReadsLine MAX_COMMAND line_end.TooLong text later line now → own ≢ 0 → Refused tool LONG_LINE.now before between own →
      GoesOn tool number own between after r → Turned begun tool hosts number failed false text later now before after r
  long_turned text line before between after own None read bad refused goes = absurd (bad goes.0)
  long_turned text line before between after own (Some status) read bad refused goes =
      let part = read.1 in
      let some : 0 < length part.part = omega (arith, read.2) in
      let front = first_front text later part some in
      let long : MAX_COMMAND < length (part.part ++ front.0) = omega (arith, length-append part.part front.0, read.2) in
      inr (inl (record {
        line = part.part ++ front.0;
        later = front.1;
        first = front.2;
        between = between;
        own = own;
        done = done_long begun tool hosts (part.part ++ front.0) before between own long refused;
        named = goes;
      }))

  read_turned : (text : List ℕ) (before between after : Standing) (own : ℕ) (r : Option ℕ) →
      failed → own ≢ 0 → Refused tool NO_READ.now before between own →
      GoesOn tool number own between after r → Turned begun tool hosts number failed false text later now before after r
  read_turned text before between after own None fault bad refused goes = absurd (bad goes.0)
  read_turned text before between after own (Some status) fault bad refused goes =
      inr (inr (inl (record { fault = fault; between = between; own = own; refused = refused; named = goes })))

  -- what follows of what was read, and is known where the source tells what is left
  turned_so : (P : List ℕ → Type 0) (was : Bool) (left : Option (List ℕ)) (before after : Standing) (r : Option ℕ) → was ≡ false →
      IfSome left P → ((text : List ℕ) → P text → Turned begun tool hosts number failed false text later now before after r) →
      IfSome left (λ text. Turned begun tool hosts number failed was text later now before after r)
  turned_so P was None before after r going read from = tt
  turned_so P was (Some text) before after r going read from =
      subst (λ (w : Bool). Turned begun tool hosts number failed w text later now before after r) (sym going) (from text read)

  pub turned_line : (was : Bool) (left : Option (List ℕ)) (read line : List ℕ) (before : Standing) (kept : List Exchange)
      (out err err_after : Option (List ℕ)) (others faults faults_after own : ℕ) (r : Option ℕ) → was ≡ false →
      (was ≡ false → IfSome left (λ text. ReadsLine MAX_COMMAND line_end.Line text later read now)) → line ≡ read →
      LineWithin begun tool hosts line before (standing kept out err others faults) own
      → NamedUnlessWell tool number own err err_after faults faults_after r →
      IfSome left (λ text. Turned begun tool hosts number failed was text later now before
      (standing kept out err_after others faults_after) r)
  turned_line was left read line before kept out err err_after others faults faults_after own r going told same done named =
      let at : List ℕ → Type 0 = λ l. LineWithin begun tool hosts l before (standing kept out err others faults) own in
      turned_so (λ (text : List ℕ). ReadsLine MAX_COMMAND line_end.Line text later read now) was left before
      (standing kept out err_after others faults_after) r going (told going)
      (λ text reads. line_turned text read before (standing kept out err others faults)
      (standing kept out err_after others faults_after) own r reads
      (subst at same done) (goes_on tool number own kept out err err_after others faults faults_after r named))

  pub turned_long : (was : Bool) (left : Option (List ℕ)) (read : List ℕ) (before : Standing) (kept : List Exchange)
      (out err err_after : Option (List ℕ)) (others faults faults_after own : ℕ) (r : Option ℕ) → was ≡ false →
      (was ≡ false → IfSome left (λ text. ReadsLine MAX_COMMAND line_end.TooLong text later read now)) → own ≢ 0 →
      Refused tool LONG_LINE.now before (standing kept out err others faults) own
      → NamedUnlessWell tool number own err err_after faults faults_after r →
      IfSome left (λ text. Turned begun tool hosts number failed was text later now before
      (standing kept out err_after others faults_after) r)
  turned_long was left read before kept out err err_after others faults faults_after own r going told bad refused named =
      turned_so (λ (text : List ℕ). ReadsLine MAX_COMMAND line_end.TooLong text later read now) was left before
      (standing kept out err_after others faults_after) r going (told going)
      (λ text reads. long_turned text read before (standing kept out err others faults)
      (standing kept out err_after others faults_after) own r reads
      bad refused (goes_on tool number own kept out err err_after others faults faults_after r named))

  pub turned_fault : (was : Bool) (left : Option (List ℕ)) (read : List ℕ) (before : Standing) (kept : List Exchange)
      (out err err_after : Option (List ℕ)) (others faults faults_after own : ℕ) (r : Option ℕ) → was ≡ false →
      (was ≡ false → IfSome left (λ text. ReadsLine MAX_COMMAND line_end.Failed text later read now)) → failed → own ≢ 0 →
      Refused tool NO_READ.now before (standing kept out err others faults) own
      → NamedUnlessWell tool number own err err_after faults faults_after r →
      IfSome left (λ text. Turned begun tool hosts number failed was text later now before
      (standing kept out err_after others faults_after) r)
  turned_fault was left read before kept out err err_after others faults faults_after own r going told fault bad refused named =
      turned_so (λ (text : List ℕ). ReadsLine MAX_COMMAND line_end.Failed text later read now) was left before
      (standing kept out err_after others faults_after) r going (told going)
      (λ text reads. read_turned text before (standing kept out err others faults) (standing kept out err_after others faults_after) own r
      fault bad refused (goes_on tool number own kept out err err_after others faults faults_after r named))
