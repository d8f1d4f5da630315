-- Why a command ends as it does, from what its exchanges brought: the host rule, and answers to calls (own).
use Rattle.std.specs.Prelude.{◌≡◌, ℕ, ◌<◌, ◌^◌, ◌&&◌, ◌⊎◌, not, Bool, true, false, List, [], ◌∷◌, ◌++◌, map}
use Rattle.std.specs.List.{AllByRecursion}
use Rattle.ubik_types.specs.declared.hosts.Host.{Host}
use Rattle.io_base.specs.declared.links.Exchange.{Exchange}
use Rattle.tool_base.specs.Asking.{ask_frame}
use Rattle.tool_base.specs.Hearing.{heard_in}
use Rattle.tool_base.specs.declared.hearing.Heard.{Heard}
use Rattle.tool_base.specs.declared.hearing.Heard.TheVariants.{Answer, Refusal as Refuses, Elsewhere, Silence}
use Rattle.tool_base.specs.declared.stops.Refusal.{Refusal}
use Rattle.afs_client.specs.Questions.{Database, Question}

-- the next host is asked where the call did not take place here, and for a call that reads also where nothing came that answers it
abbrev pub goes_on : Question → Heard → Bool
goes_on q (Answer bytes) = not q.writes && not (q.is_answer bytes)
goes_on q (Refuses why) = false
goes_on q Elsewhere = true
goes_on q Silence = not q.writes

-- of a call that writes nothing is known where nothing came that answers it
abbrev pub is_unknown : Question → Heard → Bool
is_unknown q (Answer bytes) = q.writes && not (q.is_answer bytes)
is_unknown q (Refuses why) = false
is_unknown q Elsewhere = false
is_unknown q Silence = q.writes

-- an exchange whose frame carried this call under this number
pub record Carries (q : Question) (number : ℕ) (e : Exchange) : Type 0 where
  pub counted : number < 2 ^ 32
  pub frame_is : e.frame ≡ ask_frame number q.bytes

-- an exchange that carried a call, after which the next host is asked
pub record PassesOn (q : Question) (number : ℕ) (e : Exchange) : Type 0 where
  pub carries : Carries q number e
  pub passes : goes_on q (heard_in number e) ≡ true

-- the ids of a page have their bits, in whatever was answered; those of bytes always have
abbrev pub HasBits : (List ℕ → Bool) → Heard → Type 0
HasBits has_bits (Answer bytes) = has_bits bytes ≡ true
HasBits has_bits other = Unit {0}

abbrev pub HaveBits : (List ℕ → Bool) → List Exchange → Type 0
HaveBits has_bits made = AllByRecursion (λ e. (number : ℕ) → HasBits has_bits (heard_in number e)) made

-- The last call was asked of each host in order, and of each the next one was to be asked.
pub record NoneTook {C : Type 0} (d : Database C) (hosts : List Host) (made : List Exchange) : Type 0 where
  pub call : C
  pub number : ℕ
  pub earlier : List Exchange
  pub asked : List Exchange
  pub made_is : made ≡ earlier ++ asked
  pub hosts_are : map (λ (e : Exchange). e.host) asked ≡ hosts
  pub passed : AllByRecursion (PassesOn (d.question call) number) asked
  pub fits : HaveBits d.has_bits earlier → (d.question call).fits ≡ true

-- The last exchange carried a call that writes, and nothing came that answers it.
pub record LeftUnknown {C : Type 0} (d : Database C) (made : List Exchange) : Type 0 where
  pub call : C
  pub number : ℕ
  pub earlier : List Exchange
  pub asked : Exchange
  pub made_is : made ≡ earlier ++ asked ∷ []
  pub carries : Carries (d.question call) number asked
  pub unknown : is_unknown (d.question call) (heard_in number asked) ≡ true

-- One of the exchanges carried a call that a server refused so.
pub record WasRefused {C : Type 0} (d : Database C) (why : Refusal) (made : List Exchange) : Type 0 where
  pub call : C
  pub number : ℕ
  pub earlier : List Exchange
  pub asked : Exchange
  pub later : List Exchange
  pub made_is : made ≡ earlier ++ asked ∷ later
  pub carries : Carries (d.question call) number asked
  pub refused : heard_in number asked ≡ Refuses why

-- the refusal is the command's own, or one of a server to one of its calls
abbrev pub RefusalCause : {C : Type 0} → Database C → List Exchange → Refusal → Type 0
RefusalCause d made why = (why ≡ d.own) ⊎ WasRefused d why made

-- what a host gave is an answer to the call
abbrev pub IsAnswer : Question → Heard → Type 0
IsAnswer q (Answer bytes) = q.is_answer bytes ≡ true
IsAnswer q (Refuses why) = ⊥
IsAnswer q Elsewhere = ⊥
IsAnswer q Silence = ⊥

-- an exchange with this host brought an answer to its call
abbrev pub Answers : {C : Type 0} → Database C → Host → Exchange → Type 0
Answers {C = C} d host e =
    e.host ≡ host → (call : C) → (number : ℕ) → Carries (d.question call) number e → (d.question call).fits ≡ true
    → IsAnswer (d.question call) (heard_in number e)

-- the first of the hosts answered each call
abbrev pub Served : {C : Type 0} → Database C → List Host → List Exchange → Type 0
Served d [] made = ⊥
Served d (host ∷ hosts) made = AllByRecursion (Answers d host) made × HaveBits d.has_bits made
