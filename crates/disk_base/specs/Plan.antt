-- Calls that fail by their numbers, which count from 1.
use Rattle.std.specs.Prelude.{◌≡◌, ℕ, ◌+◌, ◌-◌, ◌^◌, Bool, ◌&&◌, List, ◌==◌, min, nat_lt}
use Rattle.std.specs.List.{list_any}
use Rattle.disk_base.specs.declared.plans.Plan.{Plan}

-- these calls are to fail, and none was made yet
pub record IsFresh (numbers : List ℕ) (plan : Plan) : Type 0 where
  pub planned : plan.fails.items ≡ numbers
  pub none_made : plan.made ≡ 0

-- the greatest number of a call: calls past it have none
abbrev pub last_number : ℕ
last_number = 2 ^ 64 - 1

-- whether the call that comes next is to fail
abbrev pub fails_next : Plan → Bool
fails_next plan = nat_lt plan.made last_number && list_any (λ number. number == plan.made + 1) plan.fails.items

-- the plan after one more call
abbrev pub after_call : Plan → Plan
after_call plan = record plan { made = min (plan.made + 1) last_number }
