-- What came of the words of `udebug`.
use Rattle.std.proofs.Common.{◌≡◌, ℕ, false, List, [], Option, Some, None, Result, Err, refl, sym, ap, subst}
use Rattle.std.proofs.lemmas.List.{append-nil}
use Rattle.ubik_types.specs.declared.hosts.Host.{Host}
use Rattle.io_base.specs.declared.links.Exchange.{Exchange}
use Rattle.tool_base.specs.Ending.{Appended, FrontOf}
use Rattle.tool_base.specs.Running.{ToldSome}
use Rattle.tool_base.specs.declared.stops.Stop.{Stop}
use Rattle.tool_base.specs.declared.stops.Stop.TheVariants.{NoMemory}
use Rattle.udebug_tool.specs.Kinds.{kind_port}
use Rattle.udebug_tool.specs.Looking.{looks}
use Rattle.afs_client.specs.Debugs.{Looked, debug_asker}
use Rattle.afs_client.specs.declared.requests.DebugRequest.{DebugRequest}

pub appended_none : (t : Option (List ℕ)) → Appended t t []
appended_none None = tt
appended_none (Some x) = ap (λ (y : List ℕ). Some y) (sym (append-nil x))

pub front_none : (t : Option (List ℕ)) (text : List ℕ) → FrontOf t t text
front_none t text = record { said = []; unsaid = text; text_is = refl; appended = appended_none t }

-- the hosts of a request were asked
pub looked : (request : DebugRequest) (hosts : List Host) (before after : List Exchange) (out out1 : Option (List ℕ))
    (end : Result (Unit {0}) Stop)
    → hosts ≡ request.hosts
    → ToldSome (looks false hosts) (record { hosts = hosts; port = kind_port request.kind; number = 0 }) before after out out1 end
    → ToldSome (looks false request.hosts) (debug_asker request) before after out out1 end
looked request hosts before after out out1 end same told =
    let at : List Host → Type 0 = λ hs. ToldSome (looks false hs)
    (record { hosts = hs; port = kind_port request.kind; number = 0 }) before after out out1 end in
    subst at same told

-- memory ran out before anything was asked
pub short_look : (request : DebugRequest) (e : List Exchange) (status : ℕ) (out : Option (List ℕ)) → status ≡ 5
    → Looked request e e status out out
short_look request e status out is = record {
  end = Err NoMemory;
  status_is = is;
  told = record {
    now = debug_asker request;
    ran = record {
      said = [];
      went = record {
        made = [];
        grown = sym (append-nil e);
        fronts = λ rest. record {
          more_asks = (looks false request.hosts (debug_asker request) rest).asks;
          more_text = (looks false request.hosts (debug_asker request) rest).text;
          asks_are = refl;
          text_is = refl;
        };
      };
      written_is = appended_none out;
    };
  };
}
