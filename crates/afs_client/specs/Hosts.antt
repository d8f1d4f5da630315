-- The hosts that a word names (own).
use Rattle.std.specs.Prelude.{ℕ, ◌==◌, ◌&&◌, not, nat_le, Bool, true, if◌then◌else◌, List, [], ◌∷◌, length, Option, Some, None}
use Rattle.std.specs.List.{list_all, list_any}
use Rattle.ubik_types.specs.declared.hosts.Host.{Host}
use Rattle.ubik_types.specs.declared.limits.TheConstants.{MAXSERVERS}
use Rattle.host_words.specs.Hosts.{is_address, named_hosts, parts_of}

abbrev pub is_same : Host → Host → Bool
is_same a b = a.0 == b.0

-- no host stands twice
abbrev pub are_distinct : List Host → Bool
are_distinct [] = true
are_distinct (host ∷ hosts) = not (list_any (is_same host) hosts) && are_distinct hosts

-- 1 to 20 distinct hosts
abbrev pub are_some_hosts : List Host → Bool
are_some_hosts hosts = nat_le (length hosts) MAXSERVERS && are_distinct hosts

-- the hosts of dotted addresses that commas separate, in their order; a text always has a part
unfoldable pub hosts_of : List ℕ → Option (List Host)
hosts_of text = if list_all is_address (parts_of text) && are_some_hosts (named_hosts text) then Some (named_hosts text) else None
