-- What a line comes to in a script, by what is known of those before it.
use Rattle.std.specs.Prelude.{ℕ, ◌+◌, ◌==◌, nat_lt, Result, Ok, Err, Option, Some, None, List, [], ◌∷◌, ◌++◌, codes, decimal, length, take, if◌then◌else◌}
use Rattle.std.specs.Str.{bytes_eq}
use Rattle.rule_model.specs.declared.IpVersion.{IpVersion}
use Rattle.rule_model.specs.declared.IpVersion.TheVariants.{V4, V6}
use Rattle.rule_model.specs.AddressBlock.{same_block}
use Rattle.import_lines.specs.Import.{LineTold, SaidBy, UnsaidBy}
use Rattle.ip_routes.specs.declared.attributes.Why.{Why}
use Rattle.ip_routes.specs.declared.attributes.Why.TheVariants as why
use Rattle.ip_routes.specs.declared.format.Behind.{Behind}
use Rattle.ip_routes.specs.declared.format.Behind.TheVariants as behind
use Rattle.ip_routes.specs.declared.format.SaidRoute.{SaidRoute}
use Rattle.ip_routes.specs.Words.{gap_words, why_text}
use Rattle.ip_routes.specs.Reading.{RouteReading, Unsaid, first_reading, read_words, way_of}

-- what is known of the lines before one: the version of IP, the next hops that have a number, the first of them 1, and the
-- prefix and metric of the route that was said last
pub record Known : Type 0 where
  pub version : IpVersion
  pub hops : List (List ℕ)
  pub last : Option SaidRoute

-- the number of a next hop, if it has one, where the first one here has this
abbrev pub number_from : ℕ → List (List ℕ) → List ℕ → Option ℕ
number_from number [] way = None
number_from number (hop ∷ hops) way = if bytes_eq way hop then Some number else number_from (number + 1) hops way

abbrev pub hop_number : List (List ℕ) → List ℕ → Option ℕ
hop_number hops way = number_from 1 hops way

-- what a route is behind one of the same prefix and of this metric: in IPv6 either of two of the same metric may count
abbrev pub no_less : IpVersion → ℕ → ℕ → Behind
no_less V4 last metric = behind.Kept
no_less V6 last metric = if metric == last then behind.Unsaid why.Equal else behind.Kept

abbrev pub by_metric : IpVersion → ℕ → ℕ → Behind
by_metric version last metric = if nat_lt metric last then behind.Unsaid why.Order else no_less version last metric

-- and behind the one that was said last
abbrev pub behind_of : IpVersion → Option SaidRoute → RouteReading → Behind
behind_of version None route = behind.New
behind_of version (Some last) route =
    if same_block last.prefix route.block then by_metric version last.metric route.metric else behind.New

-- the lines of a script
abbrev pub hop_line : ℕ → List ℕ → List ℕ
hop_line number way = codes "# " ++ (decimal number ++ (codes " = " ++ (way ++ codes "\n")))

abbrev pub route_line_text : List ℕ → ℕ → List ℕ
route_line_text prefix number = codes "route add " ++ (prefix ++ (codes " " ++ (decimal number ++ codes "\n")))

abbrev pub kept_line : RouteReading → List ℕ
kept_line route = codes "# kept: " ++ (route.text ++ (codes " metric " ++ (decimal route.metric ++ (codes " " ++ (way_of route ++ codes "\n")))))

-- why a line isn't said, and the word, of which a comment has 64 bytes
abbrev pub unsaid_text : Why → List ℕ → List ℕ
unsaid_text why word = why_text why ++ (codes ": " ++ take 64 word)

-- a next hop has a number, or gets the next one, before whose first use a comment says what it stands for
abbrev pub number_by : List (List ℕ) → Option ℕ → ℕ
number_by hops (Some number) = number
number_by hops None = length hops + 1

abbrev pub way_number : List (List ℕ) → List ℕ → ℕ
way_number hops way = number_by hops (hop_number hops way)

abbrev pub comment_by : List (List ℕ) → List ℕ → Option ℕ → List ℕ
comment_by hops way (Some number) = []
comment_by hops way None = hop_line (length hops + 1) way

abbrev pub way_comment : List (List ℕ) → List ℕ → List ℕ
way_comment hops way = comment_by hops way (hop_number hops way)

abbrev pub hops_by : List (List ℕ) → List ℕ → Option ℕ → List (List ℕ)
hops_by hops way (Some number) = hops
hops_by hops way None = hops ++ way ∷ []

abbrev pub hops_with : List (List ℕ) → List ℕ → List (List ℕ)
hops_with hops way = hops_by hops way (hop_number hops way)

-- a route is added by its number
abbrev pub added : Known → RouteReading → List ℕ
added known route =
    way_comment known.hops (way_of route) ++ route_line_text route.text (way_number known.hops (way_of route))

abbrev pub known_with : Known → RouteReading → Known
known_with known route =
    record known {
      hops = hops_with known.hops (way_of route);
      last = Some (record { prefix = route.block; metric = route.metric });
    }

-- what a route comes to
abbrev pub told_behind : Known → RouteReading → Behind → LineTold
told_behind known route behind.New = SaidBy (added known route)
told_behind known route behind.Kept = SaidBy (kept_line route)
told_behind known route (behind.Unsaid reason) = UnsaidBy (unsaid_text reason route.text)

abbrev pub told_of : Known → Result RouteReading Unsaid → LineTold
told_of known (Ok route) = told_behind known route (behind_of known.version known.last route)
told_of known (Err unsaid) = UnsaidBy (unsaid_text unsaid.why unsaid.word)

-- a line without words comes to nothing
abbrev pub told_words : Known → List (List ℕ) → LineTold
told_words known [] = SaidBy []
told_words known (word ∷ words) = told_of known (read_words known.version first_reading [] (word ∷ words))

-- What a line comes to.
abbrev pub route_told : Known → List ℕ → LineTold
route_told known text = told_words known (gap_words text)

-- what is known behind it, where it is said
abbrev pub after_behind : Known → RouteReading → Behind → Known
after_behind known route behind.New = known_with known route
after_behind known route behind.Kept = known
after_behind known route (behind.Unsaid reason) = known

abbrev pub after_of : Known → Result RouteReading Unsaid → Known
after_of known (Ok route) = after_behind known route (behind_of known.version known.last route)
after_of known (Err unsaid) = known

abbrev pub after_words : Known → List (List ℕ) → Known
after_words known [] = known
after_words known (word ∷ words) = after_of known (read_words known.version first_reading [] (word ∷ words))

abbrev pub route_after : Known → List ℕ → Known
route_after known text = after_words known (gap_words text)

-- what stands behind all lines: the commit of all routes
abbrev pub route_closing : Known → List ℕ
route_closing known = codes "commit\n"

-- of lines, which always say enough for it
abbrev pub route_closed : Known → LineTold
route_closed known = SaidBy (route_closing known)
