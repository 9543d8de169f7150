-- The limits of the language and of what crosses between the tiers, each in its own unit.
use Rattle.std.specs.Prelude.{ℕ}

-- the bytes of an application and of a schedule
abbrev pub source_limit : ℕ
source_limit = 1048576

-- the tokens of an application
abbrev pub token_limit : ℕ
token_limit = 200000

-- the levels of a program's tree, and of client code
abbrev pub depth_limit : ℕ
depth_limit = 60

-- the size of a number, with either sign
abbrev pub number_limit : ℕ
number_limit = 9007199254740991

-- the units of UTF-16 of a text
abbrev pub text_limit : ℕ
text_limit = 1048576

-- the steps of a job
abbrev pub step_limit : ℕ
step_limit = 1000000

-- the calls of functions in progress in a job
abbrev pub call_limit : ℕ
call_limit = 48

-- the bytes of the text of an error
abbrev pub error_limit : ℕ
error_limit = 4096

-- ---- one list of data that cross

-- the levels of each
abbrev pub data_depth_limit : ℕ
data_depth_limit = 40

-- the nodes of all
abbrev pub data_node_limit : ℕ
data_node_limit = 20000

-- the bytes of UTF-8 of their texts and names
abbrev pub data_byte_limit : ℕ
data_byte_limit = 262144

-- ---- pages, messages and schedules

-- the levels of a page's elements
abbrev pub nesting_limit : ℕ
nesting_limit = 60

-- the bytes of a page's text and of the body of a message
abbrev pub body_limit : ℕ
body_limit = 4194304

-- the bytes of a message's head
abbrev pub head_limit : ℕ
head_limit = 65536

-- the fields of a message's head
abbrev pub field_limit : ℕ
field_limit = 64

-- the bytes of a target
abbrev pub target_limit : ℕ
target_limit = 8192

-- the lines of a schedule
abbrev pub line_limit : ℕ
line_limit = 20000

-- the greatest number of a client
abbrev pub client_limit : ℕ
client_limit = 64
