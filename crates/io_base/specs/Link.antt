-- What an ask adds to the exchanges of a link, and how many of them failed.
use Rattle.std.specs.Prelude.{ℕ, List, [], ◌∷◌, sum_by}
use Rattle.ubik_types.specs.declared.hosts.Host.{Host}
use Rattle.io_base.specs.declared.links.Answer.{Answer}
use Rattle.io_base.specs.declared.links.Answer.TheVariants.{Got, NotSent, NoAnswer, NoMemory}
use Rattle.io_base.specs.declared.links.Exchange.{Exchange}

-- the exchange of a frame that ended so
abbrev pub exchange : Host → ℕ → List ℕ → Answer → List ℕ → Exchange
exchange host port frame answer reply =
    record { host = host; port = port; frame = frame; answer = answer; reply = reply }

-- the exchanges of one ask: one, and none where memory ran out
abbrev pub made : Host → ℕ → List ℕ → Answer → List ℕ → List Exchange
made host port frame Got reply = exchange host port frame Got reply ∷ []
made host port frame NotSent reply = exchange host port frame NotSent reply ∷ []
made host port frame NoAnswer reply = exchange host port frame NoAnswer reply ∷ []
made host port frame NoMemory reply = []

-- how many faults an answer is
abbrev pub faults_in : Answer → ℕ
faults_in Got = 0
faults_in NotSent = 1
faults_in NoAnswer = 1
faults_in NoMemory = 0

-- how many of these exchanges failed
abbrev pub faults_of : List Exchange → ℕ
faults_of exchanges = sum_by (λ e. faults_in e.answer) exchanges
