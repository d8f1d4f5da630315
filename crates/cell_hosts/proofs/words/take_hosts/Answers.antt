use Rattle.std.proofs.Common.{◌≡◌, ◌∙◌, ℕ, List, Option, Some, None, Ok, OnOk, string_bytes, ap, subst, refl, String, Global}
use Rattle.cell_hosts.specs.Words.{hosts_place, hosts_at, left_at}
use Rattle.cell_hosts.proofs.words.take_hosts.Goals as goal

pub returns-in-None-clause-hosts : goal.returns-in-None-clause-hosts
returns-in-None-clause-hosts c =
    let none : None ≡ hosts_place string_bytes c.args.words.now.items =
    c.in-None.ensures.place ∙ ap (λ (ws : List (String Global)). hosts_place string_bytes ws) c.deref.ensures.value in
    subst (λ (o : Option ℕ). Ok None ≡ hosts_at string_bytes c.args.words.now.items o) none refl

pub returns-in-None-clause-left : goal.returns-in-None-clause-left
returns-in-None-clause-left c =
    let none : None ≡ hosts_place string_bytes c.args.words.now.items =
    c.in-None.ensures.place ∙ ap (λ (ws : List (String Global)). hosts_place string_bytes ws) c.deref.ensures.value in
    subst (λ (o : Option ℕ). c.args.words.now.items ≡ left_at c.args.words.now.items o) none refl

pub returns-in-Some-clause-hosts : goal.returns-in-Some-clause-hosts
returns-in-Some-clause-hosts c =
    let some : Some c.in-Some.place ≡ hosts_place string_bytes c.args.words.now.items =
    c.in-Some.ensures.place ∙ ap (λ (ws : List (String Global)). hosts_place string_bytes ws) c.deref.ensures.value in
    subst (λ (o : Option ℕ). c.take_at.result ≡ hosts_at string_bytes c.args.words.now.items o) some c.take_at.ensures.hosts

pub returns-in-Some-clause-left : goal.returns-in-Some-clause-left
returns-in-Some-clause-left c =
    let some : Some c.in-Some.place ≡ hosts_place string_bytes c.args.words.now.items =
    c.in-Some.ensures.place ∙ ap (λ (ws : List (String Global)). hosts_place string_bytes ws) c.deref.ensures.value in
    subst (λ (o : Option ℕ). OnOk c.take_at.result (c.take_at.new.words.items ≡ left_at c.args.words.now.items o)) some
    c.take_at.ensures.left
