-- An entry that comes, is another or leaves: each name stays under its owner's.
use Rattle.std.proofs.Common.{◌≡◌, ◌≢◌, ℕ, ℤ, pos, Bool, cond, List, Option, Some, None, IsSomeAnd, refl, sym, ap, subst, ◌∙◌}
use Rattle.std.specs.Option.{option_map}
use Rattle.std.specs.Ordering.{int_eq}
use Rattle.prdb_layout.specs.Registry.{Registry, with_entry}
use Rattle.prdb_layout.specs.State.{PrEntry, front_of}
use Rattle.prdb_layout.proofs.Changed.{by_id, some_same, under_other, under_same}
use Rattle.pt_service.specs.Meaning.{disowned}
use Rattle.pt_service.specs.NamedAfter.{IsNamedAfter, NamesFollowOwners}
use Rattle.pt_turns.proofs.Moved.{is_other}
use Rattle.pt_turns.proofs.Named.{to_id}

-- ---- owners of a name

-- an entry whose front is that of a name
abbrev pub Fronts : List ℕ → Option PrEntry → Type 0
Fronts name o = IsSomeAnd o (λ e. front_of name ≡ front_of e.name)

pub fronts_at : (name : List ℕ) (o p : Option PrEntry) → Fronts name o → o ≡ p → Fronts name p
fronts_at name o p fronts same = subst (Fronts name) same fronts

not_none : (name : List ℕ) (o : Option PrEntry) → Fronts name o → o ≡ None → ⊥
not_none name o fronts none = fronts_at name o None fronts none

-- an entry that was made of another one
pub record Came (make : PrEntry → PrEntry) (o : Option PrEntry) (f : PrEntry) : Type 0 where
  pub entry : PrEntry
  pub there : o ≡ Some entry
  pub made : make entry ≡ f

pub came : (make : PrEntry → PrEntry) (o : Option PrEntry) (f : PrEntry) → option_map make o ≡ Some f → Came make o f
came make None f at = absurd cc
came make (Some e) f at = record { entry = e; there = refl; made = some_same at }

-- ---- an entry comes

still_owns : (r : Registry) (e : PrEntry) (name : List ℕ) (id : ℤ) → r.entry e.id ≡ None → Fronts name (r.entry id)
    → Fronts name ((with_entry e r).entry id)
still_owns r e name id new fronts =
    by_id id e.id (λ same. absurd (not_none name (r.entry id) fronts (ap r.entry same ∙ new)))
    (λ other. fronts_at name (r.entry id) ((with_entry e r).entry id) fronts (sym (under_other e.id id (Some e) r.entry other)))

pub entered_follow : (r : Registry) (e : PrEntry) → r.entry e.id ≡ None → IsNamedAfter r.entry e → NamesFollowOwners r
    → NamesFollowOwners (with_entry e r)
entered_follow r e new named follow id f at =
    by_id id e.id
    (λ same. subst (IsNamedAfter (with_entry e r).entry) (some_same (sym (under_same e.id id (Some e) r.entry same) ∙ at))
    (λ colon owned. still_owns r e e.name e.owner new (named colon owned)))
    (λ other. λ colon owned. still_owns r e f.name f.owner new
    (follow id f (sym (under_other e.id id (Some e) r.entry other) ∙ at) colon owned))

-- ---- an entry has other fields

owns_refitted : (r : Registry) (e : PrEntry) (flags : ℕ) (quota : ℤ) (name : List ℕ) (id : ℤ) → r.entry e.id ≡ Some e
    → Fronts name (r.entry id) → Fronts name ((with_entry (record e { flags = flags; quota = quota }) r).entry id)
owns_refitted r e flags quota name id own fronts =
    let new = record e { flags = flags; quota = quota } in
    by_id id e.id
    (λ same. fronts_at name (Some new) ((with_entry new r).entry id)
    (fronts_at name (r.entry id) (Some e) fronts (ap r.entry same ∙ own))
    (sym (under_same e.id id (Some new) r.entry same)))
    (λ other. fronts_at name (r.entry id) ((with_entry new r).entry id) fronts (sym (under_other e.id id (Some new) r.entry other)))

pub refitted_follow : (r : Registry) (e : PrEntry) (flags : ℕ) (quota : ℤ) → r.entry e.id ≡ Some e → NamesFollowOwners r
    → NamesFollowOwners (with_entry (record e { flags = flags; quota = quota }) r)
refitted_follow r e flags quota own follow id f at =
    let new = record e { flags = flags; quota = quota } in
    by_id id e.id
    (λ same. subst (IsNamedAfter (with_entry new r).entry) (some_same (sym (under_same e.id id (Some new) r.entry same) ∙ at))
    (λ colon owned. owns_refitted r e flags quota e.name e.owner own (follow e.id e own colon owned)))
    (λ other. λ colon owned. owns_refitted r e flags quota f.name f.owner own
    (follow id f (sym (under_other e.id id (Some new) r.entry other) ∙ at) colon owned))

-- ---- an entry leaves

-- the entries without one, which own what they owned
abbrev left : (gone : ℤ) → Registry → ℤ → Option PrEntry
left gone r id = cond (int_eq id gone) None (option_map (disowned gone) (r.entry id))

left_other : (gone : ℤ) (r : Registry) (id : ℤ) → id ≢ gone → left gone r id ≡ option_map (disowned gone) (r.entry id)
left_other gone r id other = under_other gone id None (λ z. option_map (disowned gone) (r.entry z)) other

left_none : (gone : ℤ) (r : Registry) (id : ℤ) → id ≡ gone → left gone r id ≡ None
left_none gone r id same = under_same gone id None (λ z. option_map (disowned gone) (r.entry z)) same

owns_disowned : (gone : ℤ) (name : List ℕ) (o : Option PrEntry) → Fronts name o → Fronts name (option_map (disowned gone) o)
owns_disowned gone name None fronts = absurd fronts
owns_disowned gone name (Some e) fronts = fronts

disowned_named : (gone : ℤ) (r : Registry) (e : PrEntry) → IsNamedAfter r.entry e → IsNamedAfter (left gone r) (disowned gone e)
disowned_named gone r e named colon owned =
    by_id e.owner gone (λ same. absurd (owned (ap (λ (b : Bool). cond b (pos 0) e.owner) (to_id e.owner gone same))))
    (λ other. let stays : (disowned gone e).owner ≡ e.owner = ap (λ (b : Bool). cond b (pos 0) e.owner) (is_other e.owner gone other) in
    subst (λ (id : ℤ). Fronts e.name (left gone r id)) (sym stays)
    (fronts_at e.name (option_map (disowned gone) (r.entry e.owner)) (left gone r e.owner)
    (owns_disowned gone e.name (r.entry e.owner) (named colon (λ none. owned (stays ∙ none)))) (sym (left_other gone r e.owner other))))

pub left_follow : (gone : ℤ) (r : Registry) → NamesFollowOwners r → (id : ℤ) (f : PrEntry) → left gone r id ≡ Some f
    → IsNamedAfter (left gone r) f
left_follow gone r follow id f at =
    by_id id gone (λ same. let none : None ≡ Some f = sym (left_none gone r id same) ∙ at in absurd cc)
    (λ other. let c = came (disowned gone) (r.entry id) f (sym (left_other gone r id other) ∙ at) in
    subst (IsNamedAfter (left gone r)) c.made (disowned_named gone r c.entry (follow id c.entry c.there)))
