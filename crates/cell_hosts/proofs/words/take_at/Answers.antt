use Rattle.std.proofs.Common.{◌≡◌, ◌∙◌, ◌<◌, suc, List, Option, Some, length, get_or, slice_get, string_bytes, ap, sym, subst, rules, String, Global}
use Rattle.std.specs.List.{remove}
use Rattle.cell_hosts.specs.Words.{hosts_place, only_hosts, hosts_behind, without_two}
use Rattle.cell_hosts.proofs.Removing.{either_way, two_removed, second_removed}
use Rattle.cell_hosts.proofs.words.take_at.Goals as goal

pub returns-clause-hosts : goal.returns-clause-hosts
returns-clause-hosts c =
    let xs = c.args.words.now.items in
    let bound : c.args.place < length xs = search rules in
    let one : c.remove-switch.new.self.items ≡ remove xs c.args.place = c.remove-switch.ensures.items in
    let two : c.remove-hosts.new.self.items ≡ without_two xs c.args.place =
    c.remove-hosts.ensures.items ∙ ap (λ (ws : List (String Global)). remove ws c.args.place) one ∙ two_removed xs c.args.place bound in
    let left : c.deref.result.now ≡ without_two xs c.args.place = c.deref.ensures.value ∙ two in
    let within : c.args.place < length c.remove-switch.new.self.items = search rules in
    let behind : c.args.place < length (remove xs c.args.place) =
    subst (λ (ws : List (String Global)). c.args.place < length ws) one within in
    let at : slice_get xs (suc c.args.place) ≡ Some c.remove-hosts.result =
    second_removed xs c.args.place c.remove-hosts.result bound behind
    (subst (λ (ws : List (String Global)). c.remove-hosts.result ≡ get_or ws c.args.place c.remove-hosts.result) one
    c.remove-hosts.ensures.value) in
    subst (λ (o : Option (String Global)). c.only_hosts.result ≡ hosts_behind string_bytes xs c.args.place o) (sym at)
    (subst (λ (ws : List (String Global)). c.only_hosts.result ≡ only_hosts (hosts_place string_bytes ws) c.remove-hosts.result) left
    c.only_hosts.ensures)

pub returns-clause-left : goal.returns-clause-left
returns-clause-left c =
    let xs = c.args.words.now.items in
    let bound : c.args.place < length xs = search rules in
    let one : c.remove-switch.new.self.items ≡ remove xs c.args.place = c.remove-switch.ensures.items in
    let two : c.remove-hosts.new.self.items ≡ without_two xs c.args.place =
    c.remove-hosts.ensures.items ∙ ap (λ (ws : List (String Global)). remove ws c.args.place) one ∙ two_removed xs c.args.place bound in
    either_way c.only_hosts.result two
