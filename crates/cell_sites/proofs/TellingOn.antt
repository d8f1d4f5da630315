-- The loop that tells output by output: what it comes to in all is what it comes to from where it is.
use Rattle.std.proofs.Common.{◌≡◌, ℕ, Bool, false, Option, Some, None, List, [], ◌∷◌, ◌++◌, length, replicate, refl, sym, ap, ◌∙◌, append_assoc}
use Rattle.std.specs.Prelude.{All, filter_map}
use Rattle.std.specs.List.{cons_option}
use Rattle.std.proofs.lemmas.List.Elements.{All-head, All-tail}
use Rattle.ubik_types.specs.declared.hosts.Host.{Host}
use Rattle.ubik_calls.specs.declared.packets.Packet.{Packet}
use Rattle.cell_model.specs.declared.events.Output.{Output}
use Rattle.cell_model.specs.Step.{Shown, outputs_of}
use Rattle.cell_model.specs.World.{packet_in, packet_of}
use Rattle.cell_runs.specs.declared.endings.Ending.{Ending}
use Rattle.cell_runs.specs.ScriptDatabase.{ScriptDatabase}
use Rattle.cell_sites.specs.Calls.{AnswersOf}
use Rattle.cell_sites.specs.Telling.{MayBeTold, Telling, TellingRun, passed_in, told_of, unless_passed, with_shown}
use Rattle.cell_sites.specs.Traffic.{Traffic, sent_all, sent_maybe}

abbrev pub telling : List ℕ → Traffic → Telling
telling text packets = record { text = text; sent = packets.sent }

-- what is left of a list that is shown, and what it comes to
pub record Rest (script_db : ScriptDatabase) (hosts : List Host) (k : ℕ) (calls : List (List ℕ)) (run : TellingRun) (text : List ℕ)
    (packets : Traffic)
    (out : List Output) : Type 0 where
  pub shown : List Shown
  pub outputs : outputs_of shown ≡ out
  pub answers : All (AnswersOf calls) shown
  pub same : run ≡ told_of script_db hosts k (telling text packets) shown

pub record TellsOn (script_db : ScriptDatabase) (hosts : List Host) (k : ℕ) (calls : List (List ℕ)) (text_before : List ℕ)
    (packets_before : Traffic)
    (out_before : List Output) (text : List ℕ) (packets : Traffic) (out : List Output) : Type 0 where
  pub rest : (shown : List Shown) → outputs_of shown ≡ out_before → All (AnswersOf calls) shown
      → Rest script_db hosts k calls (told_of script_db hosts k (telling text_before packets_before) shown) text packets out
  pub votes : All MayBeTold out
  pub sends : sent_all packets (filter_map packet_in out) ≡ sent_all packets_before (filter_map packet_in out_before)

pub tells_none : (script_db : ScriptDatabase) (hosts : List Host) (k : ℕ) (calls : List (List ℕ)) (text : List ℕ) (packets : Traffic)
    (out : List Output) → All MayBeTold out
    → TellsOn script_db hosts k calls text packets out text packets out
tells_none script_db hosts k calls text packets out votes =
    record {
      rest = λ shown outputs answers. record { shown = shown; outputs = outputs; answers = answers; same = refl };
      votes = votes;
      sends = refl;
    }

-- one more packet, and then these
sent_more_all : (packets : Traffic) (p : Option Packet) (more : List Packet)
    → sent_all (sent_maybe packets p) more ≡ sent_all packets (cons_option p more)
sent_more_all packets None more = refl
sent_more_all packets (Some p) more =
    let front = append_assoc packets.sent (p ∷ []) more in
    let handed = append_assoc packets.handed (false ∷ []) (replicate (length more) false) in
    ap (λ (l : List Packet). record { sent = l; handed = (packets.handed ++ false ∷ []) ++ replicate (length more) false }) front
    ∙ ap (λ (l : List Bool). record { sent = packets.sent ++ p ∷ more; handed = l }) handed

module _ (script_db : ScriptDatabase) (hosts : List Host) (k : ℕ) (calls : List (List ℕ)) (text_before : List ℕ)
    (packets_before : Traffic) (out_before : List Output)
    (text : List ℕ) (packets : Traffic) (o : Output) (out : List Output)
    (on : TellsOn script_db hosts k calls text_before packets_before out_before text packets (o ∷ out)) where
  -- what is told of the first output that is left
  first_of : (run : TellingRun) → Rest script_db hosts k calls run text packets (o ∷ out)
      → (one : Shown) × (shown : List Shown) × (one.output ≡ o) × (outputs_of shown ≡ out) × AnswersOf calls one
      × All (AnswersOf calls) shown
      × (run ≡ unless_passed (telling text packets) (passed_in (telling text packets) (packet_of one))
      (told_of script_db hosts k (with_shown script_db hosts k (telling text packets) one) shown))
  first_of run rest = by rest.shown rest.outputs rest.answers rest.same
    where
      by : (shown : List Shown) → outputs_of shown ≡ o ∷ out → All (AnswersOf calls) shown
          → run ≡ told_of script_db hosts k (telling text packets) shown
          → (one : Shown) × (shown : List Shown) × (one.output ≡ o) × (outputs_of shown ≡ out) × AnswersOf calls one
          × All (AnswersOf calls) shown
          × (run ≡ unless_passed (telling text packets) (passed_in (telling text packets) (packet_of one))
          (told_of script_db hosts k (with_shown script_db hosts k (telling text packets) one) shown))
      by [] outputs answers same = cc
      by (one ∷ shown) outputs answers same =
          (one, shown, cc, cc, All-head (AnswersOf calls) one shown answers, All-tail (AnswersOf calls) one shown answers, same)

  pub tells_more : (text_after : List ℕ) (packets_after : Traffic)
      → ((one : Shown) → one.output ≡ o → AnswersOf calls one
      → (passed_in (telling text packets) (packet_in o) ≡ None)
      × (telling text_after packets_after ≡ with_shown script_db hosts k (telling text packets)
      one))
      → packets_after ≡ sent_maybe packets (packet_in o)
      → TellsOn script_db hosts k calls text_before packets_before out_before text_after packets_after out
  tells_more ta pa told sends =
      record {
        rest = λ shown outputs answers.
            let f = first_of _ (on.rest shown outputs answers) in
            let t = told f.0 f.2 f.4 in
            let none : passed_in (telling text packets) (packet_of f.0) ≡ None = ap
            (λ (x : Output). passed_in (telling text packets) (packet_in x)) f.2
            ∙ t.0 in
            record {
              shown = f.1;
              outputs = f.3;
              answers = f.5;
              same =
                  f.6 ∙ ap (λ (e : Option Ending). unless_passed (telling text packets) e
                  (told_of script_db hosts k (with_shown script_db hosts k (telling text packets) f.0) f.1)) none
                  ∙ ap (λ (u : Telling). told_of script_db hosts k u f.1) (sym t.1);
            };
        votes = All-tail MayBeTold o out on.votes;
        sends = ap (λ (t : Traffic). sent_all t (filter_map packet_in out)) sends
            ∙ sent_more_all packets (packet_in o) (filter_map packet_in out) ∙ on.sends;
      }

  -- the packet passes a limit
  pub tells_part : (ending : Ending) → passed_in (telling text packets) (packet_in o) ≡ Some ending
      → (shown : List Shown) → outputs_of shown ≡ out_before → All (AnswersOf calls) shown
      → told_of script_db hosts k (telling text_before packets_before) shown ≡ record { after = telling text packets; ending = Some ending }
  tells_part ending passed shown outputs answers =
      let f = first_of _ (on.rest shown outputs answers) in
      let e : passed_in (telling text packets) (packet_of f.0) ≡ Some ending = ap
      (λ (x : Output). passed_in (telling text packets) (packet_in x)) f.2
      ∙ passed in
      f.6 ∙ ap (λ (e : Option Ending). unless_passed (telling text packets) e
      (told_of script_db hosts k (with_shown script_db hosts k (telling text packets) f.0) f.1)) e

-- the end
pub tells_all : (script_db : ScriptDatabase) (hosts : List Host) (k : ℕ) (calls : List (List ℕ)) (text_before : List ℕ)
    (packets_before : Traffic) (out_before : List Output)
    (text : List ℕ) (packets : Traffic) (out : List Output) → out ≡ []
    → TellsOn script_db hosts k calls text_before packets_before out_before text packets out
    → (shown : List Shown) → outputs_of shown ≡ out_before → All (AnswersOf calls) shown
    → told_of script_db hosts k (telling text_before packets_before) shown ≡ record { after = telling text packets; ending = None }
tells_all script_db hosts k calls tb pb ob text packets out none on shown outputs answers =
    let rest = on.rest shown outputs answers in
    by rest.shown (rest.outputs ∙ none) rest.same
  where
    by : (left : List Shown) → outputs_of left ≡ []
        → told_of script_db hosts k (telling tb pb) shown ≡ told_of script_db hosts k (telling text packets) left
        → told_of script_db hosts k (telling tb pb) shown ≡ record { after = telling text packets; ending = None }
    by [] nothing same = same
    by (one ∷ left) nothing same = cc
