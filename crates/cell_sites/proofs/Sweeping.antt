-- How far the packets of each host were dropped.
use Rattle.std.proofs.Common.{◌≡◌, ◌<◌, ◌≤◌, ◌+◌, ℕ, zero, suc, Bool, true, false, List, [], ◌∷◌, ◌++◌, length, take, drop, get_or, set, map, refl, sym, ap}
use Rattle.std.proofs.Common.{◌∙◌, arith, add-one, if◌then◌else◌}
use Rattle.std.specs.Prelude.{◌==◌}
use Rattle.std.proofs.lemmas.Bool.{eq-eqb, ne_eqb, eqb-true}
use Rattle.std.proofs.lemmas.List.Elements.{All-map, All-weaker}
use Rattle.ubik_types.specs.declared.hosts.Host.{Host}
use Rattle.ubik_calls.specs.declared.packets.Packet.{Packet}
use Rattle.cell_runs.specs.Script.{dropped_of, is_of_host}
use Rattle.cell_sites.specs.declared.packets.Swept.{Swept}
use Rattle.cell_sites.specs.Swept.{HasSwept}
use Rattle.cell_sites.specs.SweptTo.{swept_to, AreSwept, AreWithin}
use Rattle.cell_sites.proofs.Waiting.{Covers, covers_swept, dropped_covers, dropped_swept, push_swept}

-- ---- a list that is mapped in place

pub map_step : {X : Type 0} (f : X → X) (s s' : List X) (i : ℕ) (d : X) → i < length s → s' ≡ set s i (f (get_or s i d))
    → take i s ++ map f (drop i s) ≡ take (i + 1) s' ++ map f (drop (i + 1) s')
map_step {X} f s s' i d within is =
    by s i within
    ∙ ap (λ (l : List X). take (suc i) l ++ map f (drop (suc i) l)) (sym is)
    ∙ ap (λ (n : ℕ). take n s' ++ map f (drop n s')) (sym (add-one i))
  where
    by : (l : List X) (k : ℕ) → k < length l
        → take k l ++ map f (drop k l) ≡ take (suc k) (set l k (f (get_or l k d))) ++ map f (drop (suc k) (set l k (f (get_or l k d))))
    by [] k lt = absurd (omega arith)
    by (x ∷ l) zero lt = refl
    by (x ∷ l) (suc k) lt = ap (λ (r : List X). x ∷ r) (by l k (omega arith))

pub map_end : {X : Type 0} (f : X → X) (s : List X) (i : ℕ) → length s ≤ i → take i s ++ map f (drop i s) ≡ s
map_end {X} f [] zero past = refl
map_end {X} f [] (suc i) past = refl
map_end {X} f (x ∷ s) zero past = absurd (omega arith)
map_end {X} f (x ∷ s) (suc i) past = ap (λ (r : List X). x ∷ r) (map_end f s i (omega arith))

-- ---- a host

pub to_swept : (host : Host) (end : ℕ) (s : Swept) → s.host.0 ≡ host.0 → record { host = s.host; below = end } ≡ swept_to host end s
to_swept host end s is = ap (λ (b : Bool). record s { below = if b then end else s.below }) (sym (eq-eqb s.host.0 host.0 is))

pub not_swept : (host : Host) (end : ℕ) (s : Swept) → (s.host.0 ≡ host.0 → ⊥) → s ≡ swept_to host end s
not_swept host end s other = ap (λ (b : Bool). record s { below = if b then end else s.below }) (sym (ne_eqb s.host.0 host.0 other))

-- a fact of a place that holds of the old one and of the end
either : (P : ℕ → Type 0) (b : Bool) (end below : ℕ) → (b ≡ true → P end) → P below → P (if b then end else below)
either P true end below at_end as_before = at_end refl
either P false end below at_end as_before = as_before

pub swept_within : (host : Host) (end n : ℕ) (swept : List Swept) → end ≤ n → AreWithin n swept
    → AreWithin n (map (swept_to host end) swept)
swept_within host end n swept near within =
    All-map (λ (s : Swept). s.below ≤ n) (swept_to host end) swept
    (All-weaker (λ (s : Swept). s.below ≤ n) (λ (s : Swept). (swept_to host end s).below ≤ n)
    (λ s before. either (λ (k : ℕ). k ≤ n) (s.host.0 == host.0) end s.below (λ is. near) before) swept within)

-- the packets of one host are those of another entry of the same host
same_host : (one other : Host) (p : Packet) → one.0 ≡ other.0 → is_of_host one p ≡ is_of_host other p
same_host one other p is = ap (λ (h : Host). is_of_host h p) (ap (λ (n : ℕ). record { 0 = n }) is)

pub dropped_are_swept : (host : Host) (end : ℕ) (sent : List Packet) (handed : List Bool) (swept : List Swept) → length handed ≡ length sent
    → AreSwept sent handed swept → AreSwept sent (dropped_of host sent handed) (map (swept_to host end) swept)
dropped_are_swept host end sent handed swept same are =
    All-map (λ (s : Swept). HasSwept sent after s.host s.below) (swept_to host end) swept
    (All-weaker (λ (s : Swept). HasSwept sent handed s.host s.below)
    (λ (s : Swept). HasSwept sent after s.host (swept_to host end s).below) one swept are)
  where
    after : List Bool
    after = dropped_of host sent handed

    of_host : (s : Swept) → s.host.0 ≡ host.0 → HasSwept sent after s.host end
    of_host s is = λ k p lt there of. dropped_swept host sent handed end same k p lt there (sym (same_host s.host host p is) ∙ of)

    one : (s : Swept) → HasSwept sent handed s.host s.below → HasSwept sent after s.host (swept_to host end s).below
    one s before =
        either (λ (k : ℕ). HasSwept sent after s.host k) (s.host.0 == host.0) end s.below
        (λ is. of_host s (eqb-true s.host.0 host.0 is))
        (covers_swept sent handed after s.host s.below (dropped_covers host sent handed same) before)

pub covers_are_swept : (sent : List Packet) (before after : List Bool) (swept : List Swept) → Covers before after
    → AreSwept sent before swept
    → AreSwept sent after swept
covers_are_swept sent before after swept covers are =
    All-weaker (λ (s : Swept). HasSwept sent before s.host s.below) (λ (s : Swept). HasSwept sent after s.host s.below)
    (λ s one. covers_swept sent before after s.host s.below covers one) swept are

pub push_are_swept : (sent : List Packet) (handed : List Bool) (p : Packet) (swept : List Swept) → AreWithin (length sent) swept
    → AreSwept sent handed swept
    → AreSwept (sent ++ p ∷ []) (handed ++ false ∷ []) swept
push_are_swept sent handed p swept within are =
    λ k d lt. push_swept sent handed p (get_or swept k d).host (get_or swept k d).below (within k d lt) (are k d lt)
