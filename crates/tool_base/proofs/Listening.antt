-- An ask of a link is what a course hears of a host.
use Rattle.std.proofs.Common.{◌≡◌, ℕ, List, [], ◌∷◌, ◌++◌, Ok, Err, refl, sym, ap, ◌∙◌}
use Rattle.std.specs.Prelude.{◌≢◌}
use Rattle.ubik_types.specs.declared.hosts.Host.{Host}
use Rattle.io_base.specs.Link.{exchange, made}
use Rattle.io_base.specs.declared.links.Answer.{Answer}
use Rattle.io_base.specs.declared.links.Answer.TheVariants.{Got, NotSent, NoAnswer, NoMemory}
use Rattle.io_base.specs.declared.links.Exchange.{Exchange}
use Rattle.tool_base.specs.Asking.{hears}
use Rattle.tool_base.specs.Course.{Asker, asks_in, behind, gives}
use Rattle.tool_base.specs.Hearing.{heard_answer}
use Rattle.tool_base.specs.Running.{Fronts, Ran}
use Rattle.tool_base.specs.declared.hearing.Heard.{Heard}
use Rattle.tool_base.specs.declared.stops.Stop.TheVariants as stop

one_made : (host : Host) (port : ℕ) (frame : List ℕ) (answer : Answer) (reply : List ℕ) →
    answer ≢ NoMemory → made host port frame answer reply ≡ exchange host port frame answer reply ∷ []
one_made host port frame Got reply other = refl
one_made host port frame NotSent reply other = refl
one_made host port frame NoAnswer reply other = refl
one_made host port frame NoMemory reply other = absurd (other refl)

hears_one : (host : Host) (frame : List ℕ) (asker : Asker) (answer : Answer) (reply : List ℕ) (rest : List Exchange)
    → hears host frame asker ((exchange host asker.port frame answer reply ∷ []) ++ rest)
    ≡ behind (asks_in (exchange host asker.port frame answer reply ∷ [])) [] (gives (heard_answer asker.number answer reply) asker rest)
unfolding hears
hears_one host frame asker given reply rest = refl

-- an answer that is one is heard
pub hears_answer : (host : Host) (frame : List ℕ) (asker : Asker) (before after : List Exchange) (answer : Answer) (reply : List ℕ)
    (heard : Heard)
    → after ≡ before ++ made host asker.port frame answer reply → answer ≢ NoMemory → heard ≡ heard_answer asker.number answer reply
    → Ran (hears host frame) asker asker before after (Ok heard)
hears_answer host frame asker before after answer reply heard grown other is = record {
  went = record {
    made = exchange host asker.port frame answer reply ∷ [];
    grown = grown ∙ ap (λ (es : List Exchange). before ++ es) (one_made host asker.port frame answer reply other);
    leads = λ rest. hears_one host frame asker answer reply rest
        ∙ ap (λ (h : Heard). behind (asks_in (exchange host asker.port frame answer reply ∷ [])) [] (gives h asker rest)) (sym is);
  };
  quiet = tt;
}

front_of_hears : (host : Host) (frame : List ℕ) (asker : Asker) (answer : Answer) (reply : List ℕ) (rest : List Exchange)
    → Fronts (asks_in (made host asker.port frame answer reply)) []
    (hears host frame asker (made host asker.port frame answer reply ++ rest))
unfolding hears
front_of_hears host frame asker Got reply rest = record { more_asks = []; more_text = []; asks_are = refl; text_is = refl }
front_of_hears host frame asker NotSent reply rest = record { more_asks = []; more_text = []; asks_are = refl; text_is = refl }
front_of_hears host frame asker NoAnswer reply rest = record { more_asks = []; more_text = []; asks_are = refl; text_is = refl }
front_of_hears host frame asker NoMemory reply rest =
    record {
      more_asks = (hears host frame asker rest).asks;
      more_text =
          (hears host frame asker rest).text;
      asks_are = refl;
      text_is = refl;
    }

-- whatever an ask brought, want of memory leaves the course on its way
pub hears_short : (host : Host) (frame : List ℕ) (asker : Asker) (before after : List Exchange) (answer : Answer) (reply : List ℕ)
    → after ≡ before ++ made host asker.port frame answer reply → Ran (hears host frame) asker asker before after (Err stop.NoMemory)
hears_short host frame asker before after answer reply grown = record {
  went = record { made = made host asker.port frame answer reply; grown = grown; fronts = front_of_hears host frame asker answer reply };
  quiet = tt;
}
