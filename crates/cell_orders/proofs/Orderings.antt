-- Orders of versions, lists of announced versions, and packets that were sent.
use Rattle.std.proofs.Common.{Bool, true, false, ◌==◌, ◌≡◌, ◌⊎◌, inl, inr, ℕ, zero, suc, ◌<◌, ◌≤◌, List, [], ◌∷◌, ◌++◌, length, refl}
use Rattle.std.proofs.Common.{ap, subst, ◌∙◌, arith}
use Rattle.std.proofs.lemmas.Bool.{cond_both}
use Rattle.std.proofs.lemmas.Bool.Decides.{nat_tests}
use Rattle.std.specs.Prelude.{Option, Some, slice_get, set, replicate}
use Rattle.std.specs.List.{cons_option}
use Rattle.ubik_types.specs.declared.hosts.Host.{Host}
use Rattle.ubik_types.specs.declared.versions.Version.{Version}
use Rattle.ubik_types.specs.Version.{version_lt, version_eq, zero_version}
use Rattle.ubik_calls.specs.declared.packets.Body.{Body}
use Rattle.ubik_calls.specs.declared.packets.Body.TheVariants as body
use Rattle.ubik_calls.specs.declared.packets.Packet.{Packet}
use Rattle.cell_model.specs.declared.events.Output.{Output}
use Rattle.cell_model.specs.declared.events.Output.TheVariants as output
use Rattle.cell_model.specs.Book.{Book, BookVersion, list_of}
use Rattle.cell_model.specs.Durable.{Transaction}
use Rattle.cell_model.specs.Polls.{only_at}
use Rattle.cell_model.specs.Step.{Member, Evaluation, Shown, host_at}
use Rattle.cell_model.specs.World.{packet_in, packets_of}
use Rattle.cell_pages.specs.Parts.{AtMost}
use Rattle.cell_pages.proofs.Versions.{less_of_lt, at_most_less, at_most_same}
use Rattle.cell_orders.specs.Histories.{Stand, announced_in, announced_with, FitsTo, OutputFits, AllFit}
use Rattle.cell_orders.specs.Orders.{AllAnnounced, last_announced, IsListed, AnnouncedRise, HasMajority, WasSent, NamesAtMost}
use Rattle.cell_orders.specs.Orders.{KeptIsKept, AnswersKeep}

-- ---- versions

pub at_most_then : (a b c : Version) → AtMost a b → AtMost b c → AtMost a c
at_most_then a b c (inl x) (inl y) = inl (omega arith)
at_most_then a b c (inl x) (inr y) = let e : b.epoch ≡ c.epoch = y.0 in inl (omega arith)
at_most_then a b c (inr x) (inl y) = let e : a.epoch ≡ b.epoch = x.0 in inl (omega arith)
at_most_then a b c (inr x) (inr y) =
    let first : a.counter ≤ b.counter = x.1 in
    let second : b.counter ≤ c.counter = y.1 in
    inr (x.0 ∙ y.0, omega arith)

pub at_most_lt : (a b : Version) → version_lt a b ≡ true → AtMost a b
at_most_lt a b is = at_most_less a a b (at_most_same a) (less_of_lt a b is)

pub at_most_not : (a b : Version) → version_lt a b ≡ false → AtMost b a
at_most_not a b is = by (b.epoch == a.epoch) refl
  where
    by : (t : Bool) → (b.epoch == a.epoch) ≡ t → AtMost b a
    by true same = inr (grind (arith, nat_tests), grind (arith, nat_tests))
    by false other = inl (grind (arith, nat_tests))

-- what is at most another one is not above it
pub not_above : (a b : Version) → AtMost b a → version_lt a b ≡ true → ⊥
not_above a b at_most less = by at_most (less_of_lt a b less)
  where
    by : AtMost b a → (a.epoch < b.epoch) ⊎ ((a.epoch ≡ b.epoch) × (a.counter < b.counter)) → ⊥
    by (inl x) (inl y) = omega arith
    by (inl x) (inr y) = let e : a.epoch ≡ b.epoch = y.0 in omega arith
    by (inr x) (inl y) = let e : b.epoch ≡ a.epoch = x.0 in omega arith
    by (inr x) (inr y) =
        let first : b.counter ≤ a.counter = x.1 in
        let second : a.counter < b.counter = y.1 in
        omega arith

pub zero_at_most : (v : Version) → AtMost zero_version v
zero_at_most v = by (v.epoch == 0) refl
  where
    by : (t : Bool) → (v.epoch == 0) ≡ t → AtMost zero_version v
    by true same = inr (grind (arith, nat_tests), omega arith)
    by false other = inl (grind (arith, nat_tests))

-- ---- announced versions

pub announced_map : (P Q : Version → Type 0) (announced : List Version) → ((u : Version) → P u → Q u) → AllAnnounced P announced →
    AllAnnounced Q announced
announced_map P Q [] f all = tt
announced_map P Q (v ∷ announced) f all = (f v all.0, announced_map P Q announced f all.1)

pub announced_two : (P Q R : Version → Type 0) (announced : List Version) → ((u : Version) → P u → Q u → R u) → AllAnnounced P announced →
    AllAnnounced Q announced → AllAnnounced R announced
announced_two P Q R [] f first second = tt
announced_two P Q R (v ∷ announced) f first second = (f v first.0 second.0, announced_two P Q R announced f first.1 second.1)

-- each is at most the last one
pub all_at_most : (announced : List Version) → AnnouncedRise announced → AllAnnounced (λ u. AtMost u (last_announced announced)) announced
all_at_most [] rise = tt
all_at_most (newest ∷ earlier) rise = (at_most_same newest, rise.0)

-- a version that is listed stays so in a longer book
pub listed_more : (book : Book) (b : BookVersion) (v : Version) → IsListed book v → IsListed (b ∷ book) v
listed_more book b v is =
    cond_both (version_eq b.version v) (Some b.transactions) (list_of book v)
    (λ (o : Option (List Transaction)). (list : List Transaction) × (o ≡ Some list))
    (λ _. (b.transactions, refl)) (λ _. is)

-- ---- packets that were sent

pub sent_left : (packets more : List Packet) (p : Packet) → WasSent packets p → WasSent (packets ++ more) p
sent_left [] more p is = absurd is
sent_left (q ∷ packets) more p (inl same) = inl same
sent_left (q ∷ packets) more p (inr is) = inr (sent_left packets more p is)

pub sent_cases : (packets more : List Packet) (p : Packet) → WasSent (packets ++ more) p → WasSent packets p ⊎ WasSent more p
sent_cases [] more p is = inr is
sent_cases (q ∷ packets) more p (inl same) = inl (inl same)
sent_cases (q ∷ packets) more p (inr is) = by (sent_cases packets more p is)
  where
    by : WasSent packets p ⊎ WasSent more p → WasSent (q ∷ packets) p ⊎ WasSent more p
    by (inl is) = inl (inr is)
    by (inr is) = inr is

pub sent_get : (packets : List Packet) (k : ℕ) (p : Packet) → slice_get packets k ≡ Some p → WasSent packets p
sent_get [] k p is = absurd (cc)
sent_get (q ∷ packets) zero p is = inl (cc)
sent_get (q ∷ packets) (suc k) p is = inr (sent_get packets k p is)

-- a packet that is shown fits
pub shown_fits : (m : Member) (Asked : ℕ → ℕ → Type 0) (c : Stand) (shown : List Shown) (p : Packet) → AllFit m Asked c shown →
    WasSent (packets_of shown) p → (p.from ≡ host_at m.hosts m.me) × FitsTo m.hosts Asked c p.to p.body
shown_fits m Asked c [] p all is = absurd is
shown_fits m Asked c (one ∷ shown) p all is = by one.output one.evaluation all.0 is (λ more. shown_fits m Asked c shown p all.1 more)
  where
    by : (o : Output) (e : Option Evaluation) → OutputFits m Asked c o e → WasSent (cons_option (packet_in o) (packets_of shown)) p →
        (WasSent (packets_of shown) p → (p.from ≡ host_at m.hosts m.me) × FitsTo m.hosts Asked c p.to p.body) →
        (p.from ≡ host_at m.hosts m.me) × FitsTo m.hosts Asked c p.to p.body
    by (output.Send packet) e fits (inl same) rest =
        subst (λ (q : Packet). (q.from ≡ host_at m.hosts m.me) × FitsTo m.hosts Asked c q.to q.body) same fits
    by (output.Send packet) e fits (inr is) rest = rest is
    by (output.Reply id r) e fits is rest = rest is
    by (output.Announce version) e fits is rest = absurd fits

-- what fits announces nothing
fits_silent : (m : Member) (Asked : ℕ → ℕ → Type 0) (c : Stand) (o : Output) (e : Option Evaluation) (announced : List Version) →
    OutputFits m Asked c o e → announced_in o announced ≡ announced
fits_silent m Asked c (output.Send packet) e announced fits = refl
fits_silent m Asked c (output.Reply id r) e announced fits = refl
fits_silent m Asked c (output.Announce version) e announced fits = absurd fits

pub nothing_announced : (m : Member) (Asked : ℕ → ℕ → Type 0) (c : Stand) (shown : List Shown) (announced : List Version) →
    AllFit m Asked c shown → announced_with shown announced ≡ announced
nothing_announced m Asked c [] announced all = refl
nothing_announced m Asked c (one ∷ shown) announced all =
    ap (announced_with shown) (fits_silent m Asked c one.output one.evaluation announced all.0) ∙ nothing_announced m Asked c shown announced all.1

pub names_more : (v w : Version) (b : Body) → AtMost v w → NamesAtMost v b → NamesAtMost w b
names_more v w (body.VersionIs number x) more is = at_most_then x v w is more
names_more v w (body.VersionKept x) more is = at_most_then x v w is more
names_more v w _ more is = tt

-- ---- durable versions that rise

pub kept_map : (hosts : List Host) (packets : List Packet) (V W : ℕ → Version) → ((j : ℕ) → AtMost (V j) (W j)) →
    KeptIsKept hosts packets V → KeptIsKept hosts packets W
kept_map hosts packets V W more kept p j is from = names_more (V j) (W j) p.body (more j) (kept p j is from)

pub majority_map : (n : ℕ) (V W : ℕ → Version) (announced : List Version) → ((j : ℕ) → AtMost (V j) (W j)) → HasMajority n V announced →
    HasMajority n W announced
majority_map n V W announced more is = record {
  set = is.set;
  each = is.each;
  most = is.most;
  keeps = λ j marked. at_most_then (last_announced announced) (V j) (W j) (is.keeps j marked) (more j);
}

pub answers_map : (n : ℕ) (V W : ℕ → Version) (A B : ℕ → Version → Type 0) (announced : List Version) →
    ((j : ℕ) → AtMost (V j) (W j)) → (is : AnswersKeep n V A announced) →
    ((j : ℕ) (v : Version) → slice_get is.majority.set j ≡ Some true → B j v → AtMost (last_announced announced) v) →
    AnswersKeep n W B announced
unfolding majority_map
answers_map n V W A B announced more is told =
    record { majority = majority_map n V W announced more is.majority; told = told }

-- ---- places

pub only_length : {A : Type 0} (one others : A) (n me : ℕ) → length (only_at one others n me) ≡ n
only_length one others zero me = refl
only_length one others (suc n) zero = ap suc (replicate_length n)
  where
    replicate_length : (n : ℕ) → length (replicate n others) ≡ n
    replicate_length zero = refl
    replicate_length (suc n) = ap suc (replicate_length n)
only_length one others (suc n) (suc me) = ap suc (only_length one others n me)

-- what stands at a place of it
pub only_get : {A : Type 0} (one others x : A) (n me j : ℕ) → slice_get (only_at one others n me) j ≡ Some x →
    ((j ≡ me) × (x ≡ one)) ⊎ (x ≡ others)
only_get one others x zero me j is = absurd (cc)
only_get {A} one others x (suc n) zero zero is = inl (refl, cc)
only_get {A} one others x (suc n) zero (suc j) is = inr (replicated n j is)
  where
    replicated : (n j : ℕ) → slice_get (replicate n others) j ≡ Some x → x ≡ others
    replicated zero j is = absurd (cc)
    replicated (suc n) zero is = cc
    replicated (suc n) (suc j) is = replicated n j is
only_get one others x (suc n) (suc me) zero is = inr (cc)
only_get {A} one others x (suc n) (suc me) (suc j) is = by (only_get one others x n me j is)
  where
    by : ((j ≡ me) × (x ≡ one)) ⊎ (x ≡ others) → ((suc j ≡ suc me) × (x ≡ one)) ⊎ (x ≡ others)
    by (inl w) = inl (ap suc w.0, w.1)
    by (inr w) = inr w

pub set_length : {A : Type 0} (xs : List A) (k : ℕ) (x : A) → length (set xs k x) ≡ length xs
set_length [] k x = refl
set_length (y ∷ xs) zero x = refl
set_length (y ∷ xs) (suc k) x = ap suc (set_length xs k x)

pub set_get : {A : Type 0} (xs : List A) (k j : ℕ) (x y : A) → slice_get (set xs k x) j ≡ Some y →
    ((j ≡ k) × (y ≡ x)) ⊎ (slice_get xs j ≡ Some y)
set_get [] k j x y is = absurd (cc)
set_get (z ∷ xs) zero zero x y is = inl (refl, cc)
set_get (z ∷ xs) zero (suc j) x y is = inr is
set_get (z ∷ xs) (suc k) zero x y is = inr is
set_get {A} (z ∷ xs) (suc k) (suc j) x y is = by (set_get xs k j x y is)
  where
    by : ((j ≡ k) × (y ≡ x)) ⊎ (slice_get xs j ≡ Some y) → ((suc j ≡ suc k) × (y ≡ x)) ⊎ (slice_get xs j ≡ Some y)
    by (inl w) = inl (ap suc w.0, w.1)
    by (inr w) = inr w
