-- What an event comes to in a script, by what is known of those before it.
use Rattle.std.specs.Prelude.{ℕ, Bool, true, false, not, ◌==◌, ◌&&◌, ◌||◌, Result, Ok, Err, Option, Some, None, List, [], ◌∷◌, ◌++◌, codes, decimal, take, if◌then◌else◌}
use Rattle.std.specs.Str.{bytes_eq}
use Rattle.rule_model.specs.declared.IpVersion.{IpVersion}
use Rattle.import_lines.specs.Import.{LineTold, SaidBy, UnsaidBy}
use Rattle.ip_routes.specs.declared.attributes.Why.{Why}
use Rattle.ip_routes.specs.declared.attributes.Why.TheVariants as why
use Rattle.ip_routes.specs.Words.{gap_words}
use Rattle.ip_routes.specs.Reading.{RouteReading, Unsaid, reading_of, read_words, way_of}
use Rattle.ip_routes.specs.Telling.{hop_number, hops_with, unsaid_text, way_comment, way_number}
use Rattle.ip_monitor.specs.declared.events.Passed.{Passed}
use Rattle.ip_monitor.specs.declared.events.Passed.TheVariants as passed
use Rattle.ip_monitor.specs.declared.ranks.Ranked.{Ranked}
use Rattle.ip_monitor.specs.Events.{PassedBy, is_advertised, passed_of}
use Rattle.ip_monitor.specs.Ranks.{least_of, number_at, others}
use Rattle.ip_monitor.specs.Standings.{Standing, ranks_of, with_ranks}

-- what is known before an event: the version of IP, the next hops that have a number, the first of them 1, and the routes that
-- stand by the events before it
pub record Known : Type 0 where
  pub version : IpVersion
  pub hops : List (List ℕ)
  pub standings : List Standing

-- the comment on an event that doesn't change the table, of whose word it has 64 bytes
abbrev pub passed_text : Passed → List ℕ
passed_text passed.Table = codes "# another table: "
passed_text passed.Version = codes "# another version: "

abbrev pub passed_line : Passed → List ℕ → List ℕ
passed_line by word = passed_text by ++ (take 64 word ++ codes "\n")

-- a commit that gives a prefix the answer of its route of least metric, or drops it where it has none
abbrev pub drop_lines : List ℕ → List ℕ
drop_lines prefix = codes "route drop " ++ (prefix ++ codes "\ncommit\n")

abbrev pub put_lines : List ℕ → ℕ → List ℕ
put_lines prefix number = codes "route put " ++ (prefix ++ (codes " " ++ (decimal number ++ codes "\ncommit\n")))

abbrev pub answer_lines : List ℕ → Option Ranked → List ℕ
answer_lines prefix None = drop_lines prefix
answer_lines prefix (Some rank) = put_lines prefix rank.number

-- the routes of its prefix behind an event: those of other metrics, and the one that stands
abbrev pub rank_of : List (List ℕ) → Bool → RouteReading → List Ranked
rank_of hops gone route = if gone then [] else record { metric = route.metric; number = way_number hops (way_of route) } ∷ []

abbrev pub ranks_after : Known → Bool → RouteReading → List Ranked
ranks_after known gone route = others route.metric (ranks_of route.block known.standings) ++ rank_of known.hops gone route

-- the next hop of a route that stands has a number, or gets the next one
abbrev pub hops_after : List (List ℕ) → Bool → RouteReading → List (List ℕ)
hops_after hops gone route = if gone then hops else hops_with hops (way_of route)

abbrev pub comment_of : List (List ℕ) → Bool → RouteReading → List ℕ
comment_of hops gone route = if gone then [] else way_comment hops (way_of route)

-- what an event writes that is said, and what is known behind it
abbrev pub changed_text : Known → Bool → RouteReading → List ℕ
changed_text known gone route =
    comment_of known.hops gone route ++ answer_lines route.text (least_of (ranks_after known gone route))

abbrev pub known_after : Known → Bool → RouteReading → Known
known_after known gone route =
    record known {
      hops = hops_after known.hops gone route;
      standings = with_ranks route.block (ranks_after known gone route) known.standings;
    }

-- the route of the same prefix and metric that is known has another next hop
abbrev pub is_other : Option ℕ → Option ℕ → Bool
is_other None number = false
is_other (Some known) None = true
is_other (Some known) (Some number) = not (known == number)

abbrev pub clashes : Known → RouteReading → Bool
clashes known route =
    is_other (number_at route.metric (ranks_of route.block known.standings)) (hop_number known.hops (way_of route))

-- so a route that goes isn't said, nor one that a router advertised
abbrev pub why_unclear : Bool → Why
why_unclear gone = if gone then why.OtherHop else why.Equal

abbrev pub route_told : Known → Bool → Bool → RouteReading → LineTold
route_told known gone advertised route =
    if (gone || advertised) && clashes known route
    then UnsaidBy (unsaid_text (why_unclear gone) route.text)
    else SaidBy (changed_text known gone route)

-- an event of this table
abbrev pub read_told : Known → Bool → Bool → Result RouteReading Unsaid → LineTold
read_told known gone advertised (Ok route) = route_told known gone advertised route
read_told known gone advertised (Err unsaid) = UnsaidBy (unsaid_text unsaid.why unsaid.word)

abbrev pub read_after : Known → Bool → Result RouteReading Unsaid → Known
read_after known gone (Ok route) = known_after known gone route
read_after known gone (Err unsaid) = known

-- an event, and one that doesn't change it
abbrev pub told_by : Known → Bool → List (List ℕ) → Option PassedBy → LineTold
told_by known gone words (Some found) = SaidBy (passed_line found.by found.word)
told_by known gone words None =
    read_told known gone (is_advertised words) (read_words known.version (reading_of gone) [] words)

abbrev pub after_by : Known → Bool → List (List ℕ) → Option PassedBy → Known
after_by known gone words (Some found) = known
after_by known gone words None = read_after known gone (read_words known.version (reading_of gone) [] words)

abbrev pub event_told : Known → Bool → List (List ℕ) → LineTold
event_told known gone words = told_by known gone words (passed_of known.version words)

abbrev pub event_after : Known → Bool → List (List ℕ) → Known
event_after known gone words = after_by known gone words (passed_of known.version words)

-- a line without words comes to nothing, and `Deleted` stands before a route that goes
abbrev pub told_words : Known → List (List ℕ) → LineTold
told_words known [] = SaidBy []
told_words known (word ∷ words) =
    if bytes_eq word (codes "Deleted") then event_told known true words else event_told known false (word ∷ words)

abbrev pub after_words : Known → List (List ℕ) → Known
after_words known [] = known
after_words known (word ∷ words) =
    if bytes_eq word (codes "Deleted") then event_after known true words else event_after known false (word ∷ words)

-- What a line comes to.
abbrev pub monitor_told : Known → List ℕ → LineTold
monitor_told known text = told_words known (gap_words text)

-- what is known behind it, where it is said
abbrev pub monitor_after : Known → List ℕ → Known
monitor_after known text = after_words known (gap_words text)

-- behind all lines stands nothing: each event is a commit
abbrev pub monitor_closing : Known → LineTold
monitor_closing known = SaidBy []
