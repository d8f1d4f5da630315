-- What an ask adds to the exchanges of a link, and to its count of faults.
use Rattle.std.proofs.Common.{◌≡◌, ℕ, ◌+◌, List, [], ◌∷◌, ◌++◌, refl, ap, ◌∙◌}
use Rattle.std.specs.Prelude.{◌≢◌}
use Rattle.std.proofs.lemmas.List.Sums.{sum_by-append}
use Rattle.ubik_types.specs.declared.hosts.Host.{Host}
use Rattle.io_base.specs.Link.{exchange, made, faults_in, faults_of}
use Rattle.io_base.specs.declared.links.Answer.{Answer}
use Rattle.io_base.specs.declared.links.Answer.TheVariants.{Got, NotSent, NoAnswer, NoMemory}
use Rattle.io_base.specs.declared.links.Exchange.{Exchange}

-- an ask that did not lack memory is one exchange
pub stored : (host : Host) (port : ℕ) (frame : List ℕ) (answer : Answer) (reply : List ℕ) →
    answer ≢ NoMemory → made host port frame answer reply ≡ exchange host port frame answer reply ∷ []
stored host port frame Got reply other = refl
stored host port frame NotSent reply other = refl
stored host port frame NoAnswer reply other = refl
stored host port frame NoMemory reply other = absurd (other refl)

one : (host : Host) (port : ℕ) (frame : List ℕ) (answer : Answer) (reply : List ℕ) →
    faults_of (made host port frame answer reply) ≡ faults_in answer
one host port frame Got reply = refl
one host port frame NotSent reply = refl
one host port frame NoAnswer reply = refl
one host port frame NoMemory reply = refl

-- the faults among the exchanges rise by those of the answer
pub counted : (exchanges : List Exchange) (host : Host) (port : ℕ) (frame : List ℕ) (answer : Answer) (reply : List ℕ) →
    faults_of (exchanges ++ made host port frame answer reply) ≡ faults_of exchanges + faults_in answer
counted exchanges host port frame answer reply =
    sum_by-append (λ (e : Exchange). faults_in e.answer) exchanges (made host port frame answer reply)
    ∙ ap (λ (n : ℕ). faults_of exchanges + n) (one host port frame answer reply)
