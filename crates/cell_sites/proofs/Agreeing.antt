-- What is told of the outputs of a step is what is seen of them, up to a packet that passes a limit.
use Rattle.std.proofs.Common.{◌≡◌, ◌≤◌, ◌+◌, ℕ, Option, Some, None, List, [], ◌∷◌, ◌++◌, length, refl, sym, ap, subst, ◌∙◌, arith, append_assoc, map}
use Rattle.std.proofs.lemmas.List.{append-nil, length_push}
use Rattle.ubik_types.specs.declared.hosts.Host.{Host}
use Rattle.ubik_calls.specs.declared.packets.Packet.{Packet}
use Rattle.ubik_calls.specs.Length.{packet_length}
use Rattle.cell_model.specs.declared.events.Output.{Output}
use Rattle.cell_model.specs.declared.events.Output.TheVariants as output
use Rattle.cell_model.specs.Step.{Evaluation, Shown}
use Rattle.cell_model.specs.World.{Happening, Sent, Announced, Replied, Lost, Stops, Halts, Restarts, Stays_down, packet_of, packets_of, seen_of_output}
use Rattle.cell_model.specs.World.{seen_from}
use Rattle.cell_runs.specs.declared.endings.Ending.{Ending}
use Rattle.cell_runs.specs.ScriptDatabase.{ScriptDatabase}
use Rattle.cell_runs.specs.Script.{Within, within, within_more, within_packet, bytes_of, passed_by}
use Rattle.cell_runs.specs.Trace.{Tells, item_text, trace, fault_count}
use Rattle.cell_sites.specs.Telling.{Telling, TellingRun, with_shown, unless_passed, told_of}
use Rattle.cell_sites.proofs.Waiting.{bytes_of-push}

-- what is seen beside outputs is no packet
abbrev pub AreMarks : List Happening → Type 0
AreMarks [] = Unit {0}
AreMarks (Sent number packet ∷ seen) = ⊥
AreMarks (h ∷ seen) = AreMarks seen

-- marks pass no limit
marks_within : (bytes : ℕ) (marks : List Happening) → AreMarks marks
    → within bytes marks ≡ record { items = map Tells marks; ending = None }
marks_within bytes [] are = refl
marks_within bytes (Sent number packet ∷ seen) are = absurd are
marks_within bytes (Announced server version ∷ seen) are = ap (within_more (Tells (Announced server version))) (marks_within bytes seen are)
marks_within bytes (Replied server id reply evaluation ∷ seen) are =
    ap (within_more (Tells (Replied server id reply evaluation))) (marks_within bytes seen are)
marks_within bytes (Lost number ∷ seen) are = ap (within_more (Tells (Lost number))) (marks_within bytes seen are)
marks_within bytes (Stops server ∷ seen) are = ap (within_more (Tells (Stops server))) (marks_within bytes seen are)
marks_within bytes (Halts server ∷ seen) are = ap (within_more (Tells (Halts server))) (marks_within bytes seen are)
marks_within bytes (Restarts server version ∷ seen) are = ap (within_more (Tells (Restarts server version))) (marks_within bytes seen are)
marks_within bytes (Stays_down server ∷ seen) are = ap (within_more (Tells (Stays_down server))) (marks_within bytes seen are)

module _ (script_db : ScriptDatabase) (hosts : List Host) (k : ℕ) where
  -- what is seen of a list that is shown, after these packets, and of marks behind it
  abbrev pub seen : List Packet → List Shown → List Happening → Within
  seen sent shown marks = within (bytes_of sent) (seen_from k (length sent + 1) shown ++ marks)

  -- what was told of it: all that was seen, and all its packets were sent; or what stands before a packet that passes a limit
  pub record Agrees (t : Telling) (shown : List Shown) (marks : List Happening) (run : TellingRun) : Type 0 where
    pub ending : (seen t.sent shown marks).ending ≡ run.ending
    pub whole : run.ending ≡ None → run.after.text ++ trace script_db hosts (map Tells marks) ≡ t.text
        ++ trace script_db hosts (seen t.sent shown marks).items
    pub sent : run.ending ≡ None → run.after.sent ≡ t.sent ++ packets_of shown
    pub part : (e : Ending) → run.ending ≡ Some e → run.after.text ≡ t.text ++ trace script_db hosts (seen t.sent shown marks).items

  -- an output that is no packet
  unsent : (t : Telling) (one : Shown) (shown : List Shown) (marks : List Happening) (run : TellingRun) → packet_of one ≡ None
      → seen t.sent (one ∷ shown) marks ≡ within_more (Tells (seen_of_output k (length t.sent + 1) one.output one.evaluation))
      (seen t.sent shown marks)
      → packets_of (one ∷ shown) ≡ packets_of shown
      → Agrees (record { text = (with_shown script_db hosts k t one).text; sent = t.sent }) shown marks run
      → Agrees t (one ∷ shown) marks run
  unsent t one shown marks run none is packets rest =
      let line = item_text script_db hosts (Tells (seen_of_output k (length t.sent + 1) one.output one.evaluation)) in
      let all = append_assoc t.text line (trace script_db hosts (seen t.sent shown marks).items) in
      let shows = ap (λ (w : Within). t.text ++ trace script_db hosts w.items) (sym is) in
      record {
        ending = ap (λ (w : Within). w.ending) is ∙ rest.ending;
        whole = λ e. rest.whole e ∙ all ∙ shows;
        sent = λ e. rest.sent e ∙ ap (λ (l : List Packet). t.sent ++ l) (sym packets);
        part = λ e there. rest.part e there ∙ all ∙ shows;
      }

  -- a packet that passes a limit, and one that does not
  sends : (t : Telling) (p : Packet) (evaluation : Option Evaluation) (shown : List Shown) (marks : List Happening) (passed : Option Ending)
      → passed_by (length t.sent + 1) (bytes_of t.sent + packet_length p) ≡ passed
      → Agrees (with_shown script_db hosts k t (record { output = output.Send p; evaluation = evaluation })) shown marks
      (told_of script_db hosts k (with_shown script_db hosts k t (record { output = output.Send p; evaluation = evaluation })) shown)
      → Agrees t (record { output = output.Send p; evaluation = evaluation } ∷ shown) marks
      (unless_passed t passed
      (told_of script_db hosts k (with_shown script_db hosts k t (record { output = output.Send p; evaluation = evaluation })) shown))
  sends t p evaluation shown marks (Some ending) is rest =
      let item = Tells (Sent (length t.sent + 1) p) in
      let e = ap (λ (o : Option Ending). within_packet item o
      (within (bytes_of t.sent + packet_length p) (seen_from k (length t.sent + 1 + 1) shown ++ marks)))
      is in
      record {
        ending = ap (λ (w : Within). w.ending) e;
        whole = λ never. cc;
        sent = λ never. cc;
        part = λ other there. sym (ap (λ (w : Within). t.text ++ trace script_db hosts w.items) e ∙ append-nil t.text);
      }
  sends t p evaluation shown marks None is rest =
      let one : Shown = record { output = output.Send p; evaluation = evaluation } in
      let item = Tells (Sent (length t.sent + 1) p) in
      let line = item_text script_db hosts item in
      let more = t.sent ++ p ∷ [] in
      let e : seen t.sent (one ∷ shown) marks ≡ within_more item (seen more shown marks) =
      ap (λ (o : Option Ending). within_packet item o
      (within (bytes_of t.sent + packet_length p) (seen_from k (length t.sent + 1 + 1) shown ++ marks))) is
      ∙ ap (λ (n : ℕ). within_more item (within n (seen_from k (length t.sent + 1 + 1) shown ++ marks))) (sym (bytes_of-push t.sent p))
      ∙ ap (λ (n : ℕ). within_more item (within (bytes_of more) (seen_from k (n + 1) shown ++ marks))) (sym (length_push t.sent p)) in
      let all = append_assoc t.text line (trace script_db hosts (seen more shown marks).items) in
      let shows = ap (λ (w : Within). t.text ++ trace script_db hosts w.items) (sym e) in
      record {
        ending = ap (λ (w : Within). w.ending) e ∙ rest.ending;
        whole = λ n. rest.whole n ∙ all ∙ shows;
        sent = λ n. rest.sent n ∙ append_assoc t.sent (p ∷ []) (packets_of shown);
        part = λ ending there. rest.part ending there ∙ all ∙ shows;
      }

  passes : (t : Telling) (p : Packet) (evaluation : Option Evaluation) (shown : List Shown) (marks : List Happening)
      (passed : Option Ending)
      → passed_by (length t.sent + 1) (bytes_of t.sent + packet_length p) ≡ passed
      → Agrees (with_shown script_db hosts k t (record { output = output.Send p; evaluation = evaluation })) shown marks
      (told_of script_db hosts k (with_shown script_db hosts k t (record { output = output.Send p; evaluation = evaluation })) shown)
      → Agrees t (record { output = output.Send p; evaluation = evaluation } ∷ shown) marks
      (told_of script_db hosts k t (record { output = output.Send p; evaluation = evaluation } ∷ shown))
  passes t p evaluation shown marks passed is rest =
      let it : Shown = record { output = output.Send p; evaluation = evaluation } in
      let P : Option Ending → Type 0 = λ o. Agrees t (it ∷ shown) marks
      (unless_passed t o (told_of script_db hosts k (with_shown script_db hosts k t it) shown)) in
      subst P (sym is) (sends t p evaluation shown marks passed is rest)

  pub agrees : (t : Telling) (shown : List Shown) (marks : List Happening) → AreMarks marks
      → Agrees t shown marks (told_of script_db hosts k t shown)
  agrees t [] marks are =
      let e = marks_within (bytes_of t.sent) marks are in
      record {
        ending = ap (λ (w : Within). w.ending) e;
        whole = λ n. ap (λ (w : Within). t.text ++ trace script_db hosts w.items) (sym e);
        sent = λ n. sym (append-nil t.sent);
        part = λ ending there. cc;
      }
  agrees t (one ∷ shown) marks are = by one.output one.evaluation (λ u. agrees u shown marks are)
    where
      by : (o : Output) (e : Option Evaluation) → ((u : Telling) → Agrees u shown marks (told_of script_db hosts k u shown))
          → Agrees t (record { output = o; evaluation = e } ∷ shown) marks
          (told_of script_db hosts k t (record { output = o; evaluation = e } ∷ shown))
      by (output.Send p) e rest =
          passes t p e shown marks (passed_by (length t.sent + 1) (bytes_of t.sent + packet_length p)) refl
          (rest (with_shown script_db hosts k t (record { output = output.Send p; evaluation = e })))
      by (output.Reply id r) e rest =
          let it : Shown = record { output = output.Reply id r; evaluation = e } in
          unsent t it shown marks _ refl refl refl (rest (with_shown script_db hosts k t it))
      by (output.Announce version) e rest =
          let it : Shown = record { output = output.Announce version; evaluation = e } in
          unsent t it shown marks _ refl refl refl (rest (with_shown script_db hosts k t it))

-- outputs tell no fault
pub few_faults : (k j bytes number : ℕ) (shown : List Shown) (marks : List Happening) → AreMarks marks
    → fault_count j (within bytes (seen_from k number shown ++ marks)).items ≤ fault_count j (map Tells marks)
few_faults k j bytes number [] marks are =
    let e = ap (λ (w : Within). fault_count j w.items) (marks_within bytes marks are) in omega (arith, e)
few_faults k j bytes number (one ∷ shown) marks are = by one.output one.evaluation (λ b n. few_faults k j b n shown marks are)
  where
    by : (o : Output) (e : Option Evaluation)
        → ((b n : ℕ) → fault_count j (within b (seen_from k n shown ++ marks)).items ≤ fault_count j (map Tells marks))
        → fault_count j (within bytes (seen_from k number (record { output = o; evaluation = e } ∷ shown) ++ marks)).items ≤ fault_count
        j (map Tells marks)
    by (output.Send p) e rest = passed (passed_by number (bytes + packet_length p))
      where
        passed : (o : Option Ending)
            → fault_count j (within_packet (Tells (Sent number p)) o
            (within (bytes + packet_length p) (seen_from k (number + 1) shown ++ marks))).items ≤
            fault_count j (map Tells marks)
        passed (Some ending) = omega arith
        passed None = let r = rest (bytes + packet_length p) (number + 1) in omega (arith, r)
    by (output.Reply id r) e rest = let few = rest bytes number in omega (arith, few)
    by (output.Announce version) e rest = let few = rest bytes number in omega (arith, few)
