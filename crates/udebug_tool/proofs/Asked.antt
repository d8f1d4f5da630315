-- A question to a host is a step of the course.
use Rattle.std.proofs.Common.{◌≡◌, ℕ, List, [], ◌∷◌, ◌++◌, Option, Ok, Err, refl, sym, ap, ◌∙◌, subst}
use Rattle.std.specs.Prelude.{◌≢◌}
use Rattle.ubik_types.specs.declared.hosts.Host.{Host}
use Rattle.io_base.specs.Link.{exchange, made}
use Rattle.io_base.specs.declared.links.Answer.{Answer}
use Rattle.io_base.specs.declared.links.Answer.TheVariants.{Got, NotSent, NoAnswer, NoMemory}
use Rattle.io_base.specs.declared.links.Exchange.{Exchange}
use Rattle.ubik_calls.specs.declared.frames.Frame.TheVariants as frame
use Rattle.ubik_calls.specs.declared.replies.DebugIs.{DebugIs}
use Rattle.ubik_calls.specs.WireGrammar.{spelling}
use Rattle.tool_base.specs.Course.{Asker, asks_in, behind, counted, gives}
use Rattle.tool_base.specs.Running.{Fronts, Ran}
use Rattle.tool_base.specs.declared.stops.Stop.TheVariants as stop
use Rattle.udebug_tool.specs.Looking.{looks_at}
use Rattle.udebug_tool.specs.Seen.{seen_answer}

-- the question that comes next
abbrev pub question : Asker → List ℕ
question asker = spelling (frame.Debug (counted asker).number)

one_made : (host : Host) (port : ℕ) (sent : List ℕ) (answer : Answer) (reply : List ℕ) →
    answer ≢ NoMemory → made host port sent answer reply ≡ exchange host port sent answer reply ∷ []
one_made host port sent Got reply other = refl
one_made host port sent NotSent reply other = refl
one_made host port sent NoAnswer reply other = refl
one_made host port sent NoMemory reply other = absurd (other refl)

looks_one : (host : Host) (asker : Asker) (answer : Answer) (reply : List ℕ) (rest : List Exchange)
    → looks_at host asker ((exchange host asker.port (question asker) answer reply ∷ []) ++ rest)
    ≡ behind (asks_in (exchange host asker.port (question asker) answer reply ∷ [])) [] (gives (seen_answer (counted asker).number answer reply) (counted asker) rest)
unfolding looks_at
looks_one host asker given reply rest = refl

-- an answer that is one is seen
pub looked_answer : (host : Host) (asker : Asker) (before after : List Exchange) (answer : Answer) (reply : List ℕ) (seen : Option DebugIs)
    → after ≡ before ++ made host asker.port (question asker) answer reply → answer ≢ NoMemory → seen ≡ seen_answer (counted asker).number answer reply
    → Ran (looks_at host) asker (counted asker) before after (Ok seen)
looked_answer host asker before after answer reply seen grown other is = record {
  went = record {
    made = exchange host asker.port (question asker) answer reply ∷ [];
    grown = grown ∙ ap (λ (es : List Exchange). before ++ es) (one_made host asker.port (question asker) answer reply other);
    leads = λ rest. looks_one host asker answer reply rest
        ∙ ap (λ (found : Option DebugIs). behind (asks_in (exchange host asker.port (question asker) answer reply ∷ [])) [] (gives found (counted asker) rest)) (sym is);
  };
  quiet = tt;
}

front_of_looks : (host : Host) (asker : Asker) (answer : Answer) (reply : List ℕ) (rest : List Exchange)
    → Fronts (asks_in (made host asker.port (question asker) answer reply)) [] (looks_at host asker (made host asker.port (question asker) answer reply ++ rest))
unfolding looks_at
front_of_looks host asker Got reply rest = record { more_asks = []; more_text = []; asks_are = refl; text_is = refl }
front_of_looks host asker NotSent reply rest = record { more_asks = []; more_text = []; asks_are = refl; text_is = refl }
front_of_looks host asker NoAnswer reply rest = record { more_asks = []; more_text = []; asks_are = refl; text_is = refl }
front_of_looks host asker NoMemory reply rest =
    record { more_asks = (looks_at host asker rest).asks; more_text = (looks_at host asker rest).text; asks_are = refl; text_is = refl }

-- whatever the question brought, want of memory leaves the course on its way
pub looked_short : (host : Host) (asker asker1 : Asker) (before after : List Exchange) (answer : Answer) (reply : List ℕ)
    → after ≡ before ++ made host asker.port (question asker) answer reply → Ran (looks_at host) asker asker1 before after (Err stop.NoMemory)
looked_short host asker asker1 before after answer reply grown = record {
  went = record { made = made host asker.port (question asker) answer reply; grown = grown; fronts = front_of_looks host asker answer reply };
  quiet = tt;
}

-- the question was asked by who had counted it
pub was_asked : (host : Host) (asker asker1 : Asker) (before after : List Exchange) (port number : ℕ) (sent : List ℕ) (answer : Answer) (reply : List ℕ)
    → asker1 ≡ counted asker → port ≡ asker1.port → number ≡ asker1.number → sent ≡ spelling (frame.Debug number)
    → after ≡ before ++ made host port sent answer reply → after ≡ before ++ made host asker.port (question asker) answer reply
was_asked host asker asker1 before after port number sent answer reply counts at of_number is grown =
    let port_is : port ≡ asker.port = at ∙ ap (λ (a : Asker). a.port) counts in
    let number_is : number ≡ (counted asker).number = of_number ∙ ap (λ (a : Asker). a.number) counts in
    let sent_is : sent ≡ question asker = is ∙ ap (λ (n : ℕ). spelling (frame.Debug n)) number_is in
    grown ∙ ap (λ (p : ℕ). before ++ made host p sent answer reply) port_is
    ∙ ap (λ (s : List ℕ). before ++ made host asker.port s answer reply) sent_is

pub looked : (host : Host) (asker asker1 : Asker) (before after : List Exchange) (port number : ℕ) (sent : List ℕ) (answer : Answer) (reply : List ℕ) (seen : Option DebugIs)
    → asker1 ≡ counted asker → port ≡ asker1.port → number ≡ asker1.number → sent ≡ spelling (frame.Debug number)
    → after ≡ before ++ made host port sent answer reply → answer ≢ NoMemory → seen ≡ seen_answer number answer reply
    → Ran (looks_at host) asker asker1 before after (Ok seen)
looked host asker asker1 before after port number sent answer reply seen counts at of_number is grown other found =
    let number_is : number ≡ (counted asker).number = of_number ∙ ap (λ (a : Asker). a.number) counts in
    subst (λ (a : Asker). Ran (looks_at host) asker a before after (Ok seen)) (sym counts)
    (looked_answer host asker before after answer reply seen (was_asked host asker asker1 before after port number sent answer reply counts at of_number is grown) other
    (found ∙ ap (λ (n : ℕ). seen_answer n answer reply) number_is))
