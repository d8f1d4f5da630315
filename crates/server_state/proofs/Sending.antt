-- Packets to each other server, one after the other.
use Rattle.std.proofs.Common.{◌≡◌, ℕ, suc, ◌+◌, ◌<◌, ◌==◌, true, false, Some, List, [], ◌∷◌, ◌++◌, length, drop, get_or, slice_get, refl, sym, ap, ◌∙◌, append_assoc, add-one}
use Rattle.std.proofs.lemmas.Option.{get_or_from_slice_get, slice_get-get_or}
use Rattle.std.proofs.Math.Seq.{drop-cons}
use Rattle.ubik_types.specs.declared.hosts.Host.{Host}
use Rattle.ubik_calls.specs.declared.packets.Body.{Body}
use Rattle.cell_model.specs.declared.events.Output.{Output}
use Rattle.cell_model.specs.declared.events.Output.TheVariants.{Send}
use Rattle.cell_model.specs.Step.{Member, outputs_of, packet_to, sends_from}

pub parted : (hosts : List Host) (k : ℕ) (host : Host) → k < length hosts → slice_get hosts k ≡ Some host
    → drop k hosts ≡ host ∷ drop (k + 1) hosts
parted hosts k host inside at =
    let same = get_or_from_slice_get hosts k host host at in rw add-one
    (drop-cons hosts k host inside ∙ ap (λ (x : Host). x ∷ drop (suc k) hosts) same)

-- what is put out from a place on, the same packet to each
abbrev pub left : Member → Body → ℕ → List Host → List Output
left m body k hosts = outputs_of (sends_from m k hosts (λ at. body ∷ []))

pub left-other : (m : Member) (body : Body) (k : ℕ) (host : Host) (hosts : List Host) → (k == m.me) ≡ false
    → left m body k (host ∷ hosts) ≡ Send (packet_to m host body) ∷ left m body (k + 1) hosts
left-other m body k host hosts other = rw other refl

pub left-own : (m : Member) (body : Body) (k : ℕ) (host : Host) (hosts : List Host) → (k == m.me) ≡ true
    → left m body k (host ∷ hosts) ≡ left m body (k + 1) hosts
left-own m body k host hosts own = rw own refl

-- one packet more
pub one_sent : (m : Member) (body : Body) (k : ℕ) (host : Host) (out all : List Output) → k < length m.hosts
    → slice_get m.hosts k ≡ Some host → (k == m.me) ≡ false
    → out ++ left m body k (drop k m.hosts) ≡ all → (out ++ Send (packet_to m host body) ∷ [])
    ++ left m body (k + 1) (drop (k + 1) m.hosts) ≡ all
one_sent m body k host out all inside at other is =
    append_assoc out (Send (packet_to m host body) ∷ []) (left m body (k + 1) (drop (k + 1) m.hosts))
    ∙ ap (λ (rest : List Output). out ++ rest)
    (sym (ap (left m body k) (parted m.hosts k host inside at) ∙ left-other m body k host (drop (k + 1) m.hosts) other)) ∙ is

-- the own place
pub one_skipped : (m : Member) (body : Body) (k : ℕ) (out all : List Output) → k < length m.hosts → (k == m.me) ≡ true
    → out ++ left m body k (drop k m.hosts) ≡ all → out ++ left m body (k + 1) (drop (k + 1) m.hosts) ≡ all
one_skipped m body k out all inside own is =
    let host : Host = get_or m.hosts k (record { 0 = 0 }) in
    let at = slice_get-get_or m.hosts k (record { 0 = 0 }) inside in
    ap (λ (rest : List Output). out ++ rest)
    (sym (ap (left m body k) (parted m.hosts k host inside at) ∙ left-own m body k host (drop (k + 1) m.hosts) own)) ∙ is

-- the same where each server gets packets of its own
abbrev pub left_of : Member → (ℕ → List Body) → ℕ → List Host → List Output
left_of m bodies k hosts = outputs_of (sends_from m k hosts bodies)

given-one : (m : Member) (bodies : ℕ → List Body) (body : Body) (k : ℕ) (host : Host) (hosts : List Host) → (k == m.me) ≡ false
    → bodies k ≡ body ∷ []
    → left_of m bodies k (host ∷ hosts) ≡ Send (packet_to m host body) ∷ left_of m bodies (k + 1) hosts
given-one m bodies body k host hosts other is = rw (other, is) refl

given-none : (m : Member) (bodies : ℕ → List Body) (k : ℕ) (host : Host) (hosts : List Host) → (k == m.me) ≡ false → bodies k ≡ []
    → left_of m bodies k (host ∷ hosts) ≡ left_of m bodies (k + 1) hosts
given-none m bodies k host hosts other is = rw (other, is) refl

given-own : (m : Member) (bodies : ℕ → List Body) (k : ℕ) (host : Host) (hosts : List Host) → (k == m.me) ≡ true
    → left_of m bodies k (host ∷ hosts) ≡ left_of m bodies (k + 1) hosts
given-own m bodies k host hosts own = rw own refl

module _ (m : Member) (bodies : ℕ → List Body) (k : ℕ) (out all : List Output) (inside : k < length m.hosts)
    (rest : out ++ left_of m bodies k (drop k m.hosts) ≡ all) where
  some_host : Host
  some_host = get_or m.hosts k (record { 0 = 0 })

  some_there : slice_get m.hosts k ≡ Some some_host
  unfolding some_host
  some_there = slice_get-get_or m.hosts k (record { 0 = 0 }) inside

  pub gave_one : (host : Host) (body : Body) → slice_get m.hosts k ≡ Some host → (k == m.me) ≡ false → bodies k ≡ body ∷ []
      → (out ++ Send (packet_to m host body) ∷ []) ++ left_of m bodies (k + 1) (drop (k + 1) m.hosts) ≡ all
  gave_one host body at other is =
      append_assoc out (Send (packet_to m host body) ∷ []) (left_of m bodies (k + 1) (drop (k + 1) m.hosts))
      ∙ ap (λ (more : List Output). out ++ more)
      (sym (ap (left_of m bodies k) (parted m.hosts k host inside at) ∙ given-one m bodies body k host (drop (k + 1) m.hosts) other is))
      ∙ rest

  pub gave_none : (k == m.me) ≡ false → bodies k ≡ [] → out ++ left_of m bodies (k + 1) (drop (k + 1) m.hosts) ≡ all
  gave_none other is =
      ap (λ (more : List Output). out ++ more)
      (sym (ap (left_of m bodies k) (parted m.hosts k some_host inside some_there)
      ∙ given-none m bodies k some_host (drop (k + 1) m.hosts) other is)) ∙ rest

  pub gave_own : (k == m.me) ≡ true → out ++ left_of m bodies (k + 1) (drop (k + 1) m.hosts) ≡ all
  gave_own own =
      ap (λ (more : List Output). out ++ more)
      (sym (ap (left_of m bodies k) (parted m.hosts k some_host inside some_there)
      ∙ given-own m bodies k some_host (drop (k + 1) m.hosts) own)) ∙ rest
