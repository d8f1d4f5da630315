-- A database that is changed as it may be is valid.
use Rattle.std.proofs.Common.{◌≡◌, ◌≢◌, ℕ, ◌<◌, ◌^◌, Bool, true, false, Some, None, refl, sym, subst, ◌∙◌, ⊎_elim}
use Rattle.std.specs.List.{All, Contains}
use Rattle.std.proofs.lemmas.Bool.{cases_eq}
use Rattle.db_blocks.proofs.Maps.{some_same, under_same, under_other}
use Rattle.vldb_entries.specs.declared.entries.VlEntry.{VlEntry}
use Rattle.vldb_entries.specs.Location.{Location, IsLocation, IsRecord, MayEnter, has_id, with_entered, with_entry, with_next_volume, without_entry}

not_both : {P : Type 0} (b : Bool) → b ≡ true → b ≡ false → P
not_both b t f = absurd cc

-- a fact on each entry of the old ones, and on this one, is one on each of the new ones
each_with : (s : Location) (e : VlEntry) (P : ℕ → VlEntry → Type 0) → P e.rw e
    → ((rw_id : ℕ) (f : VlEntry) → s.entry rw_id ≡ Some f → P rw_id f)
    → (rw_id : ℕ) (f : VlEntry) → (with_entry e s).entry rw_id ≡ Some f → P rw_id f
each_with s e P here others rw_id f at =
    ⊎_elim
    (λ (same : rw_id ≡ e.rw).
    let is : e ≡ f = some_same (sym (under_same e.rw rw_id (Some e) s.entry same) ∙ at) in
    subst (λ (n : ℕ). P n f) (sym same) (subst (P e.rw) is here))
    (λ (other : rw_id ≢ e.rw). others rw_id f (sym (under_other e.rw rw_id (Some e) s.entry other) ∙ at))
    (cases_eq rw_id e.rw)

none_is : {P X : Type 0} (x : X) → None ≡ Some x → P
none_is x e = absurd cc

pub each_without : (s : Location) (gone : ℕ) (P : ℕ → VlEntry → Type 0)
    → ((rw_id : ℕ) (f : VlEntry) → s.entry rw_id ≡ Some f → rw_id ≢ gone → P rw_id f)
    → (rw_id : ℕ) (f : VlEntry) → (without_entry gone s).entry rw_id ≡ Some f → P rw_id f
each_without s gone P others rw_id f at =
    ⊎_elim
    (λ (same : rw_id ≡ gone). none_is f (sym (under_same gone rw_id None s.entry same) ∙ at))
    (λ (other : rw_id ≢ gone). others rw_id f (sym (under_other gone rw_id None s.entry other) ∙ at) other)
    (cases_eq rw_id gone)

abbrev IsApart : (s : Location) → (id : ℕ) → ℕ → VlEntry → Type 0
IsApart s id a e = (b : ℕ) (f : VlEntry) → s.entry b ≡ Some f → has_id id e ≡ true → has_id id f ≡ true → a ≡ b

abbrev IsOtherwiseNamed : (s : Location) → ℕ → VlEntry → Type 0
IsOtherwiseNamed s a e = (b : ℕ) (f : VlEntry) → s.entry b ≡ Some f → e.name ≡ f.name → a ≡ b

location_with : (s : Location) (e : VlEntry) → IsLocation s → IsRecord e → ((b : ℕ) (f : VlEntry) → s.entry b ≡ Some f → f.name ≢ e.name)
    → ((b id : ℕ) (f : VlEntry) → s.entry b ≡ Some f → has_id id e ≡ true → has_id id f ≡ false)
    → All (λ site. Contains s.addresses site.host) e.sites
    → IsLocation (with_entry e s)
location_with s e valid is named ids hosts = record {
  ids = each_with s e (λ a f. f.rw ≡ a) refl valid.ids;
  records = each_with s e (λ a f. IsRecord f) is valid.records;
  names = λ a b f g at_a at_b same. each_with s e (IsOtherwiseNamed (with_entry e s))
      (each_with s e (λ c k. e.name ≡ k.name → e.rw ≡ c) (λ eq. refl) (λ c k at eq. absurd (named c k at (sym eq))))
      (λ z h at. each_with s e (λ c k. h.name ≡ k.name → z ≡ c) (λ eq. absurd (named z h at eq))
      (λ c k other eq. valid.names z c h k at other eq))
      a f at_a b g at_b same;
  apart = λ a b id f g at_a at_b has_f has_g. each_with s e (IsApart (with_entry e s) id)
      (each_with s e (λ c k. has_id id e ≡ true → has_id id k ≡ true → e.rw ≡ c) (λ x y. refl)
      (λ c k at x y. not_both (has_id id k) y (ids c id k at x)))
      (λ z h at. each_with s e (λ c k. has_id id h ≡ true → has_id id k ≡ true → z ≡ c) (λ x y. not_both (has_id id h) x (ids z id h at y))
      (λ c k other x y. valid.apart z c id h k at other x y))
      a f at_a b g at_b has_f has_g;
  hosts = each_with s e (λ a f. All (λ site. Contains s.addresses site.host) f.sites) hosts valid.hosts;
  places = valid.places;
  words = valid.words;
  once = valid.once;
  next = valid.next;
}

pub location_without : (s : Location) (gone : ℕ) → IsLocation s → IsLocation (without_entry gone s)
location_without s gone valid = record {
  ids = each_without s gone (λ a f. f.rw ≡ a) (λ a f at other. valid.ids a f at);
  records = each_without s gone (λ a f. IsRecord f) (λ a f at other. valid.records a f at);
  names = λ a b f g at_a at_b same. each_without s gone (IsOtherwiseNamed (without_entry gone s))
      (λ z h at out. each_without s gone (λ c k. h.name ≡ k.name → z ≡ c) (λ c k other left eq. valid.names z c h k at other eq))
      a f at_a b g at_b same;
  apart = λ a b id f g at_a at_b has_f has_g. each_without s gone (IsApart (without_entry gone s) id)
      (λ z h at out. each_without s gone (λ c k. has_id id h ≡ true → has_id id k ≡ true → z ≡ c)
      (λ c k other left x y. valid.apart z c id h k at other x y))
      a f at_a b g at_b has_f has_g;
  hosts = each_without s gone (λ a f. All (λ site. Contains s.addresses site.host) f.sites) (λ a f at other. valid.hosts a f at);
  places = valid.places;
  words = valid.words;
  once = valid.once;
  next = valid.next;
}

pub location_entered : (s : Location) (own : ℕ) (e : VlEntry) → IsLocation s → IsRecord e → MayEnter own e s
    → IsLocation (with_entered own e s)
location_entered s own e valid is may =
    location_with (without_entry own s) e (location_without s own valid) is
    (each_without s own (λ b f. f.name ≢ e.name) (λ b f at other. may.name b f at other))
    (λ b id. each_without s own (λ b f. has_id id e ≡ true → has_id id f ≡ false) (λ b f at other has. may.ids b id f at other has) b)
    may.hosts

pub location_next : (s : Location) (id : ℕ) → IsLocation s → id < 2 ^ 32 → IsLocation (with_next_volume id s)
location_next s id valid low = record {
  ids = valid.ids;
  records = valid.records;
  names = valid.names;
  apart = valid.apart;
  hosts = valid.hosts;
  places = valid.places;
  words = valid.words;
  once = valid.once;
  next = low;
}
