-- The schedule that is generated for so many clicks.
use Rattle.std.specs.Prelude.{◌+◌, ◌-◌, ◌/◌, ◌%◌, ◌++◌, ℕ, List, [], ◌∷◌, min, map, reverse, codes, decimal}
use Rattle.std.specs.List.{flat_map, range_with_len}

-- what a line of it asks for: a client's load of the page, a click on its button, or the service or the delivery of its message
pub data Step : Type 0 where
  load : ℕ → Step
  click : ℕ → Step
  serve : ℕ → ℕ → Step
  deliver : ℕ → ℕ → Step

-- the line in the schedule
abbrev pub line : Step → List ℕ
line (load client) = codes "load " ++ decimal client ++ codes " /hop/main\n"
line (click client) = codes "click " ++ decimal client ++ codes " #b\n"
line (serve client message) = codes "serve " ++ decimal client ++ codes "." ++ decimal message ++ codes "\n"
line (deliver client message) = codes "deliver " ++ decimal client ++ codes "." ++ decimal message ++ codes "\n"

abbrev pub lines : List Step → List ℕ
lines steps = flat_map line steps

-- the numbers from 1 to n
abbrev pub up_to : ℕ → List ℕ
up_to n = range_with_len 1 n

-- how many clients take part
abbrev pub clients : ℕ → ℕ
clients n = min n 64

-- every client gets its page: the requests are served from the last client to the first
abbrev pub opening : ℕ → List Step
opening c = map load (up_to c) ++ map (λ k. serve k 1) (reverse (up_to c)) ++ map (λ k. deliver k 1) (up_to c)

-- the client whose turn the j-th click is, and the number of the message that it sends
abbrev pub client_of : ℕ → ℕ → ℕ
client_of c j = (j - 1) % c + 1

abbrev pub message_of : ℕ → ℕ → ℕ
message_of c j = 2 + (j - 1) / c

-- the j-th click, and what becomes of its message
abbrev pub turn : ℕ → ℕ → List Step
turn c j = click (client_of c j) ∷ serve (client_of c j) (message_of c j) ∷ deliver (client_of c j) (message_of c j) ∷ []

-- the whole schedule of n clicks
abbrev pub steps : ℕ → List Step
steps n = opening (clients n) ++ flat_map (turn (clients n)) (up_to n)

abbrev pub schedule_text : ℕ → List ℕ
schedule_text n = lines (steps n)
