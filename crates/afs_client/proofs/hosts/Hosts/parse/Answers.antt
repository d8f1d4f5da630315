use Rattle.std.proofs.Common.{◌≡◌, ℕ, Bool, true, false, List, Some, None, refl, sym, ap, ◌∙◌}
use Rattle.std.specs.Prelude.{◌&&◌, if◌then◌else◌}
use Rattle.std.specs.List.{list_all}
use Rattle.std.specs.Option.{is_some}
use Rattle.ubik_types.specs.declared.hosts.Host.{Host}
use Rattle.host_words.specs.Hosts.{is_address, named_hosts, parts_of}
use Rattle.afs_client.specs.Hosts.{are_some_hosts, hosts_of}
use Rattle.afs_client.proofs.hosts.Hosts.parse.Goals as goal

chosen : (a b : Bool) (hosts : List Host) → a ≡ true → b ≡ true → (if a && b then Some hosts else None) ≡ Some hosts
chosen true true hosts first second = refl
chosen true false hosts first second = cc
chosen false b hosts first second = cc

first_fails : (a b : Bool) (hosts : List Host) → a ≡ false → (if a && b then Some hosts else None) ≡ None
first_fails true b hosts first = cc
first_fails false b hosts first = refl

second_fails : (a b : Bool) (hosts : List Host) → b ≡ false → (if a && b then Some hosts else None) ≡ None
second_fails true true hosts second = cc
second_fails true false hosts second = refl
second_fails false b hosts second = refl

are_hosts : (text : List ℕ) (list seen : List Host) → true ≡ list_all is_address (parts_of text) → list ≡ named_hosts text → seen ≡ list
    → true ≡ are_some_hosts seen → hosts_of text ≡ Some list
unfolding hosts_of
are_hosts text list seen addresses named same some =
    chosen (list_all is_address (parts_of text)) (are_some_hosts (named_hosts text)) (named_hosts text) (sym addresses)
    (ap are_some_hosts (sym named) ∙ ap are_some_hosts (sym same) ∙ sym some) ∙ ap (λ (hosts : List Host). Some hosts) (sym named)

no_addresses : (text : List ℕ) → false ≡ list_all is_address (parts_of text) → hosts_of text ≡ None
unfolding hosts_of
no_addresses text addresses =
    first_fails (list_all is_address (parts_of text)) (are_some_hosts (named_hosts text)) (named_hosts text) (sym addresses)

no_hosts : (text : List ℕ) (list seen : List Host) → list ≡ named_hosts text → seen ≡ list → false ≡ are_some_hosts seen
    → hosts_of text ≡ None
unfolding hosts_of
no_hosts text list seen named same some =
    second_fails (list_all is_address (parts_of text)) (are_some_hosts (named_hosts text)) (named_hosts text)
    (ap are_some_hosts (sym named) ∙ ap are_some_hosts (sym same) ∙ sym some)

pub returns-in_default-clause-malformed : goal.returns-in_default-clause-malformed
returns-in_default-clause-malformed c =
    λ is. no_addresses c.args.text.now (sym (ap is_some c.in_default.is) ∙ c.in_ok-list.ensures.addresses)

pub returns-then-are_some_hosts-clause-hosts : goal.returns-then-are_some_hosts-clause-hosts
returns-then-are_some_hosts-clause-hosts c =
    are_hosts c.args.text.now c.in-Some.list.items c.as_slice.result.now (sym (ap is_some c.in-Some.is) ∙ c.in_ok-list.ensures.addresses)
    (rw c.in-Some.is at c.in_ok-list.ensures.hosts) c.as_slice.ensures.value c.if-are_some_hosts.ensures

pub returns-else-are_some_hosts-clause-malformed : goal.returns-else-are_some_hosts-clause-malformed
returns-else-are_some_hosts-clause-malformed c = λ is.
    no_hosts c.args.text.now c.in-Some.list.items c.as_slice.result.now
    (rw c.in-Some.is at c.in_ok-list.ensures.hosts) c.as_slice.ensures.value
    c.if-are_some_hosts.ensures
