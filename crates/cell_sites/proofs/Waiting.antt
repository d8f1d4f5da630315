-- Which packets wait.
use Rattle.std.proofs.Common.{Vec, ◌≡◌, ◌<◌, ◌≤◌, ◌+◌, ℕ, zero, suc, Bool, true, false, ◌||◌, Some, None, List, [], ◌∷◌, ◌++◌, length, take, drop, get_or, set}
use Rattle.std.proofs.Common.{refl, sym, ap, ◌∙◌, arith, add-one, if◌then◌else◌, inl, inr}
use Rattle.std.proofs.lemmas.Bool.Decides.{nat_tests}
use Rattle.std.specs.Prelude.{slice_get, ◌==◌, nat_lt}
use Rattle.std.proofs.lemmas.List.{take-append-drop}
use Rattle.std.proofs.lemmas.Bool.{cases_lt, eq-eqb, ne_eqb}
use Rattle.std.proofs.Math.Seq.{take-append_seam}
use Rattle.std.specs.Vec.{with_items}
use Rattle.ubik_types.specs.declared.hosts.Host.{Host}
use Rattle.ubik_calls.specs.declared.packets.Packet.{Packet}
use Rattle.ubik_calls.specs.Length.{packet_length}
use Rattle.cell_runs.specs.declared.limits.TheConstants.{MAX_PACKETS, MAX_PACKET_BYTES}
use Rattle.cell_runs.specs.declared.endings.Ending.TheVariants.{Limit}
use Rattle.cell_runs.specs.declared.endings.Which.TheVariants.{Packets, PacketBytes}
use Rattle.cell_runs.specs.Script.{passed_by, bytes_of, dropped_of, first_waiting, is_of_host}
use Rattle.cell_sites.specs.Swept.{NoneWaits, HasSwept}

-- ---- the first that waits

pub waits_at : (n : ℕ) (handed : List Bool) (place : ℕ) → NoneWaits handed place → place < length handed → get_or handed place true ≡ false
    → first_waiting n handed ≡ Some (n + place)
waits_at n [] place none within waits = absurd (omega arith)
waits_at n (h ∷ more) zero none within waits =
    ap (λ (b : Bool). if b then first_waiting (n + 1) more else Some n) waits ∙ ap Some (omega arith)
waits_at n (h ∷ more) (suc place) none within waits =
    ap (λ (b : Bool). if b then first_waiting (n + 1) more else Some n) (none 0 (omega arith))
    ∙ waits_at (n + 1) more place (λ k lt. none (suc k) (omega arith)) (omega arith) waits
    ∙ ap Some (omega arith)

pub none_waits : (n : ℕ) (handed : List Bool) → NoneWaits handed (length handed) → first_waiting n handed ≡ None
none_waits n [] none = refl
none_waits n (h ∷ more) none =
    ap (λ (b : Bool). if b then first_waiting (n + 1) more else Some n) (none 0 (omega arith))
    ∙ none_waits (n + 1) more (λ k lt. none (suc k) (omega arith))

-- none below a place waits, and none from there up to another
pub none_upto : (handed : List Bool) (low place : ℕ) → NoneWaits handed low → ((k : ℕ) → low ≤ k → k < place → get_or handed k false ≡ true)
    → NoneWaits handed place
none_upto handed low place none more k lt = elim (cases_lt k low) [ inl below ↦ none k below | inr from ↦ more k from lt ]

-- ---- fewer wait

-- what waits no longer before waits no longer after
abbrev pub Covers : List Bool → List Bool → Type 0
Covers before after = (k : ℕ) → get_or before k false ≡ true → get_or after k false ≡ true

pub covers_none : (before after : List Bool) (low : ℕ) → Covers before after → NoneWaits before low → NoneWaits after low
covers_none before after low covers none k lt = covers k (none k lt)

pub covers_swept : (sent : List Packet) (before after : List Bool) (host : Host) (below : ℕ) → Covers before after
    → HasSwept sent before host below
    → HasSwept sent after host below
covers_swept sent before after host below covers swept k p lt there is = covers k (swept k p lt there is)

pub set_covers : (handed : List Bool) (i : ℕ) → Covers handed (set handed i true)
set_covers [] i k is = is
set_covers (h ∷ more) zero zero is = refl
set_covers (h ∷ more) zero (suc k) is = is
set_covers (h ∷ more) (suc i) zero is = is
set_covers (h ∷ more) (suc i) (suc k) is = set_covers more i k is

pub push_covers : (handed : List Bool) → Covers handed (handed ++ false ∷ [])
push_covers [] k is = by k is
  where
    by : (k : ℕ) → false ≡ true → get_or (false ∷ []) k false ≡ true
    by zero is = is
    by (suc k) is = is
push_covers (h ∷ more) zero is = is
push_covers (h ∷ more) (suc k) is = push_covers more k is

or_left : (b c : Bool) → b ≡ true → (b || c) ≡ true
or_left true c is = refl
or_left false c is = cc

or_right : (b c : Bool) → c ≡ true → (b || c) ≡ true
or_right true c is = refl
or_right false c is = is

pub dropped_covers : (host : Host) (sent : List Packet) (handed : List Bool) → length handed ≡ length sent
    → Covers handed (dropped_of host sent handed)
dropped_covers host [] handed same k is = is
dropped_covers host (p ∷ sent) [] same k is = is
dropped_covers host (p ∷ sent) (h ∷ more) same zero is = or_left h (is_of_host host p) is
dropped_covers host (p ∷ sent) (h ∷ more) same (suc k) is = dropped_covers host sent more (omega arith) k is

-- those of the host wait no longer
pub dropped_swept : (host : Host) (sent : List Packet) (handed : List Bool) (below : ℕ) → length handed ≡ length sent
    → HasSwept sent (dropped_of host sent handed) host below
dropped_swept host [] handed below same k p lt there is = cc
dropped_swept host (q ∷ sent) [] below same k p lt there is = absurd (omega arith)
dropped_swept host (q ∷ sent) (h ∷ more) below same zero p lt there is =
    let one : is_of_host host q ≡ true = let e : q ≡ p = cc in ap (is_of_host host) e ∙ is in
    or_right h (is_of_host host q) one
dropped_swept host (q ∷ sent) (h ∷ more) below same (suc k) p lt there is =
    dropped_swept host sent more (suc k) (omega arith) k p (omega arith) there is

pub length-dropped : (host : Host) (sent : List Packet) (handed : List Bool) → length handed ≡ length sent
    → length (dropped_of host sent handed) ≡ length sent
length-dropped host [] handed same = same
length-dropped host (p ∷ sent) [] same = same
length-dropped host (p ∷ sent) (h ∷ more) same =
    let rest = length-dropped host sent more (omega arith) in omega (arith, rest)

-- ---- the walk

-- where it begins: none of those before it waits
pub walk_begins : (host : Host) (sent : List Packet) (handed : List Bool) (from : ℕ) → length handed ≡ length sent
    → HasSwept sent handed host from
    → from ≤ length sent → dropped_of host sent handed ≡ take from handed ++ dropped_of host (drop from sent) (drop from handed)
walk_begins host sent handed zero same swept within = refl
walk_begins host [] handed (suc from) same swept within = absurd (omega arith)
walk_begins host (p ∷ sent) [] (suc from) same swept within = absurd (omega arith)
walk_begins host (p ∷ sent) (h ∷ more) (suc from) same swept within =
    ap (λ (b : Bool). b ∷ dropped_of host sent more) (by (is_of_host host p) refl)
    ∙ ap (λ (l : List Bool). h ∷ l)
    (walk_begins host sent more from (omega arith) (λ k q lt there is. swept (suc k) q (omega arith) there is) (omega arith))
  where
    by : (b : Bool) → is_of_host host p ≡ b → (h || is_of_host host p) ≡ h
    by true is = let one : h ≡ true = swept 0 p (omega arith) refl is in or_left h (is_of_host host p) one ∙ sym one
    by false is = ap (λ (b : Bool). h || b) is ∙ none h
      where
        none : (b : Bool) → (b || false) ≡ b
        none true = refl
        none false = refl

-- a packet of the host
pub walk_drops : (host : Host) (sent : List Packet) (handed : List Bool) (k : ℕ) (p : Packet) → length handed ≡ length sent
    → slice_get sent k ≡ Some p
    → is_of_host host p ≡ true
    → take k handed ++ dropped_of host (drop k sent) (drop k handed) ≡ take (suc k) (set handed k true)
    ++ dropped_of host (drop (suc k) sent)
    (drop (suc k) (set handed k true))
walk_drops host [] handed k p same there is = cc
walk_drops host (q ∷ sent) [] k p same there is = absurd (omega arith)
walk_drops host (q ∷ sent) (h ∷ more) zero p same there is =
    let e : q ≡ p = cc in
    ap (λ (b : Bool). b ∷ dropped_of host sent more) (or_right h (is_of_host host q) (ap (is_of_host host) e ∙ is))
walk_drops host (q ∷ sent) (h ∷ more) (suc k) p same there is =
    ap (λ (l : List Bool). h ∷ l) (walk_drops host sent more k p (omega arith) there is)

-- another packet
pub walk_passes : (host : Host) (sent : List Packet) (handed : List Bool) (k : ℕ) (p : Packet) → length handed ≡ length sent
    → slice_get sent k ≡ Some p
    → is_of_host host p ≡ false
    → take k handed ++ dropped_of host (drop k sent) (drop k handed) ≡ take (suc k) handed
    ++ dropped_of host (drop (suc k) sent) (drop (suc k) handed)
walk_passes host [] handed k p same there is = cc
walk_passes host (q ∷ sent) [] k p same there is = absurd (omega arith)
walk_passes host (q ∷ sent) (h ∷ more) zero p same there is =
    let e : q ≡ p = cc in
    ap (λ (b : Bool). (h || b) ∷ dropped_of host sent more) (ap (is_of_host host) e ∙ is)
    ∙ ap (λ (b : Bool). b ∷ dropped_of host sent more) (none h)
  where
    none : (b : Bool) → (b || false) ≡ b
    none true = refl
    none false = refl
walk_passes host (q ∷ sent) (h ∷ more) (suc k) p same there is =
    ap (λ (l : List Bool). h ∷ l) (walk_passes host sent more k p (omega arith) there is)

-- the end
pub walk_ends : (host : Host) (sent : List Packet) (handed : List Bool)
    → take (length sent) handed ++ dropped_of host (drop (length sent) sent) (drop (length sent) handed) ≡ handed
walk_ends host sent handed =
    ap (λ (l : List Packet). take (length sent) handed ++ dropped_of host l (drop (length sent) handed)) (all sent)
    ∙ take-append-drop (length sent) handed
  where
    all : (l : List Packet) → drop (length l) l ≡ []
    all [] = refl
    all (p ∷ l) = all l

-- ---- what is sent

pub bytes_of-push : (sent : List Packet) (p : Packet) → bytes_of (sent ++ p ∷ []) ≡ bytes_of sent + packet_length p
bytes_of-push [] p = omega arith
bytes_of-push (q ∷ sent) p = let rest = bytes_of-push sent p in omega (arith, rest)

-- a packet below a place is none that is sent now
pub push_swept : (sent : List Packet) (handed : List Bool) (p : Packet) (host : Host) (below : ℕ) → below ≤ length sent
    → HasSwept sent handed host below
    → HasSwept (sent ++ p ∷ []) (handed ++ false ∷ []) host below
push_swept sent handed p host below within swept k q lt there is =
    push_covers handed k (swept k q lt (front sent k (omega arith) there) is)
  where
    front : (l : List Packet) (k : ℕ) → k < length l → slice_get (l ++ p ∷ []) k ≡ Some q → slice_get l k ≡ Some q
    front [] k lt there = absurd (omega arith)
    front (r ∷ l) zero lt there = there
    front (r ∷ l) (suc k) lt there = front l k (omega arith) there

-- ---- places in the words of the code

-- the walk goes on over a packet of the host
pub walk_drops_at : (host : Host) (sent : List Packet) (handed after : List Bool) (k : ℕ) (p : Packet) → length handed ≡ length sent
    → slice_get sent k ≡ Some p
    → is_of_host host p ≡ true → after ≡ set handed k true
    → take k handed ++ dropped_of host (drop k sent) (drop k handed) ≡ take (k + 1) after
    ++ dropped_of host (drop (k + 1) sent) (drop (k + 1) after)
walk_drops_at host sent handed after k p same there is e =
    walk_drops host sent handed k p same there is
    ∙ ap (λ (h : List Bool). take (suc k) h ++ dropped_of host (drop (suc k) sent) (drop (suc k) h)) (sym e)
    ∙ ap (λ (n : ℕ). take n after ++ dropped_of host (drop n sent) (drop n after)) (sym (add-one k))

pub walk_passes_at : (host : Host) (sent : List Packet) (handed after : List Bool) (k : ℕ) (p : Packet) → length handed ≡ length sent
    → slice_get sent k ≡ Some p → is_of_host host p ≡ false → after ≡ handed
    → take k handed ++ dropped_of host (drop k sent) (drop k handed) ≡ take (k + 1) after
    ++ dropped_of host (drop (k + 1) sent) (drop (k + 1) after)
walk_passes_at host sent handed after k p same there is e =
    walk_passes host sent handed k p same there is
    ∙ ap (λ (h : List Bool). take (suc k) h ++ dropped_of host (drop (suc k) sent) (drop (suc k) h)) (sym e)
    ∙ ap (λ (n : ℕ). take n after ++ dropped_of host (drop n sent) (drop n after)) (sym (add-one k))

pub walk_ends_at : (host : Host) (sent : List Packet) (handed : List Bool) (k : ℕ) → k ≡ length sent
    → take k handed ++ dropped_of host (drop k sent) (drop k handed) ≡ handed
walk_ends_at host sent handed k is =
    ap (λ (n : ℕ). take n handed ++ dropped_of host (drop n sent) (drop n handed)) is ∙ walk_ends host sent handed

pub is_of : (host : Host) (p : Packet) → p.from.0 ≡ host.0 → is_of_host host p ≡ true
is_of host p is = or_left (p.from.0 == host.0) (p.to.0 == host.0) (eq-eqb p.from.0 host.0 is)

pub is_to : (host : Host) (p : Packet) → p.to.0 ≡ host.0 → is_of_host host p ≡ true
is_to host p is = or_right (p.from.0 == host.0) (p.to.0 == host.0) (eq-eqb p.to.0 host.0 is)

pub is_no : (host : Host) (p : Packet) → (p.from.0 ≡ host.0 → ⊥) → (p.to.0 ≡ host.0 → ⊥) → is_of_host host p ≡ false
is_no host p none nor = ap (λ (b : Bool). b || (p.to.0 == host.0)) (ne_eqb p.from.0 host.0 none) ∙ ne_eqb p.to.0 host.0 nor

-- a vector with as many other items
pub items_with : {X Z : Type 0} (v : Vec X Z) (ws : List X) → length ws ≡ length v.items → (with_items v ws).items ≡ ws
items_with v ws same =
    let len : v.len ≡ length ws = omega (arith, v.ok.0, same) in
    ap (λ n. take n (ws ++ drop (length ws) v.items)) len ∙ take-append_seam ws (drop (length ws) v.items)

ltb_not : (m n : ℕ) → nat_lt m n ≡ false → n ≤ m
ltb_not m n is = grind (arith, nat_tests)

-- a packet that passes no limit is within both
pub passed_none : (number bytes : ℕ) → passed_by number bytes ≡ None → (number ≤ MAX_PACKETS) × (bytes ≤ MAX_PACKET_BYTES)
passed_none number bytes none = by (nat_lt MAX_PACKETS number) refl (nat_lt MAX_PACKET_BYTES bytes) refl
  where
    by : (b : Bool) → nat_lt MAX_PACKETS number ≡ b → (c : Bool) → nat_lt MAX_PACKET_BYTES bytes ≡ c → (number ≤ MAX_PACKETS)
        × (bytes ≤ MAX_PACKET_BYTES)
    by true is c eq = let over : Some (Limit Packets) ≡ None = sym
        (ap (λ (b : Bool). if b then Some
        (Limit Packets) else (if nat_lt MAX_PACKET_BYTES bytes then Some (Limit PacketBytes) else None)) is)
        ∙ none in absurd cc
    by false is true eq = let over : Some (Limit PacketBytes) ≡ None = sym
        (ap (λ (b : Bool). if b then Some
        (Limit Packets) else (if nat_lt MAX_PACKET_BYTES bytes then Some (Limit PacketBytes) else None)) is
        ∙ ap (λ (b : Bool). if b then Some (Limit PacketBytes) else None) eq) ∙ none in absurd cc
    by false is false eq = (ltb_not MAX_PACKETS number is, ltb_not MAX_PACKET_BYTES bytes eq)
