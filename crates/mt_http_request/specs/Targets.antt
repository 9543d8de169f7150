-- The targets by which services are asked for.
use Rattle.std.specs.Prelude.{ℕ, List, [], ◌∷◌, ◌++◌, codes, encode_utf8_all}
use Rattle.mt_tree.specs.declared.data.Data.{Data}
use Rattle.mt_syntax.specs.DataText.{arguments_text}
use Rattle.mt_http_request.specs.Escapes.{escaped}

-- where services are found
abbrev pub services_path : List ℕ
services_path = codes "/hop/"

-- the path of the service of this name
abbrev pub service_path : List ℕ → List ℕ
service_path service = services_path ++ escaped (encode_utf8_all service)

-- the query that gives these arguments; there is none where there are none
abbrev pub arguments_query : List Data → List ℕ
arguments_query [] = []
arguments_query (d ∷ ds) = codes "?a=" ++ escaped (arguments_text (d ∷ ds))

-- the target that calls this service with these arguments
abbrev pub call_target : List ℕ → List Data → List ℕ
call_target service arguments = service_path service ++ arguments_query arguments
