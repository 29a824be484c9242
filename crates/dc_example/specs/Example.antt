-- The text of examples/small.toml, and what reading it may answer.
use Rattle.std.specs.Prelude.{◌≡◌, ℕ, List, ◌++◌, codes, Result, Ok, Err}
use Rattle.dc_check.specs.Small.{small_tables}
use Rattle.dc_document.specs.declared.fault.BuildError.{BuildError}
use Rattle.dc_document.specs.declared.fault.BuildError.TheVariants.{Refused, Memory}
use Rattle.dc_tables.specs.TableRows.{TableRows}
use Rattle.dc_toml.specs.Reading.{tables_of}
use Rattle.dc_build.specs.Reported.{TellsTables}

-- the text of examples/small.toml, byte by byte
abbrev pub example_text : List ℕ
example_text =
    codes "# The smallest concentrator that does something: one bus with two labels, one router, one output with one label.\n"
    ++ codes "# Every key with its unit and range: docs/formats.md. The parameters are examples, not rows of the standard.\n"
    ++ codes "\n"
    ++ codes "version = 1                 # the version of this format\n"
    ++ codes "tick_us = 1000              # one tick of the concentrator, in microseconds: 100 to 10,000\n"
    ++ codes "\n"
    ++ codes "# A parameter: a label with an equipment code, its format, and the least and the greatest interval between its words.\n"
    ++ codes "[[parameter]]\n"
    ++ codes "label = \"203\"               # three octal digits, 001 to 377\n"
    ++ codes "equipment = \"001\"           # three hexadecimal digits\n"
    ++ codes "format = \"bnr\"              # \"bnr\", \"bcd\" or \"disc\"\n"
    ++ codes "min_us = 10000              # microseconds, 1 to 60,000,000\n"
    ++ codes "max_us = 20000              # microseconds, at least min_us\n"
    ++ codes "\n"
    ++ codes "[[parameter]]\n"
    ++ codes "label = \"204\"\n"
    ++ codes "equipment = \"001\"\n"
    ++ codes "format = \"bnr\"\n"
    ++ codes "min_us = 10000\n"
    ++ codes "max_us = 20000\n"
    ++ codes "\n"
    ++ codes "# A bus that the concentrator receives, with the streams of words that it may carry.\n"
    ++ codes "[[bus]]\n"
    ++ codes "name = \"A\"                  # 1 to 16 of A-Z a-z 0-9 _ -\n"
    ++ codes "speed = \"high\"              # \"high\" or \"low\"\n"
    ++ codes "queue = 2                   # words that wait at most, 1 to 4,096\n"
    ++ codes "\n"
    ++ codes "[[bus.stream]]\n"
    ++ codes "name = \"A-203\"\n"
    ++ codes "label = \"203\"\n"
    ++ codes "equipment = \"001\"\n"
    ++ codes "sdi = \"any\"                 # 0 to 3, or \"any\"\n"
    ++ codes "\n"
    ++ codes "[[bus.stream]]\n"
    ++ codes "name = \"A-204\"\n"
    ++ codes "label = \"204\"\n"
    ++ codes "equipment = \"001\"\n"
    ++ codes "sdi = \"any\"\n"
    ++ codes "\n"
    ++ codes "# A router takes words from the queues of its buses, one a step.\n"
    ++ codes "[[router]]\n"
    ++ codes "name = \"R1\"\n"
    ++ codes "steps = 1                   # at least so many steps ..\n"
    ++ codes "within = 1                  # .. in each so many whole ticks\n"
    ++ codes "most = 2                    # and at most so many in one tick\n"
    ++ codes "visits = [\"A\"]              # the buses in the order of its steps, over and over\n"
    ++ codes "\n"
    ++ codes "# An output bus, its pace and its transmit table.\n"
    ++ codes "[[output]]\n"
    ++ codes "name = \"O\"\n"
    ++ codes "speed = \"high\"\n"
    ++ codes "steps = 1                   # at least so many sends ..\n"
    ++ codes "within = 2                  # .. in each so many whole ticks\n"
    ++ codes "frame = 15                  # the transmit table repeats every so many ticks\n"
    ++ codes "\n"
    ++ codes "[[output.label]]\n"
    ++ codes "name = \"x\"\n"
    ++ codes "label = \"203\"\n"
    ++ codes "equipment = \"001\"\n"
    ++ codes "sdi = 0                     # 0 to 3\n"
    ++ codes "sources = [\"A-203\"]         # streams, the first has priority\n"
    ++ codes "stale = 22                  # ticks after its routing for which a source is fresh\n"
    ++ codes "age = 30                    # the oldest that a copied word may be, in ticks\n"
    ++ codes "offsets = [0]               # the ticks of the frame in which the label is due\n"

-- an answer that is the small tables, or that memory ran out
abbrev pub IsSmall : Result TableRows BuildError → Type 0
IsSmall (Ok rows) = rows ≡ small_tables
IsSmall (Err (Memory e)) = Unit {0}
IsSmall (Err (Refused fault)) = ⊥

-- each answer that tells the tables of the text is such a one
abbrev pub ExampleIsSmall : Type 0
ExampleIsSmall = (answer : Result TableRows BuildError) → TellsTables (tables_of example_text) answer → IsSmall answer
