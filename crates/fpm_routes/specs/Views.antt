-- What a change of the code stands for.
use Rattle.std.specs.Prelude.{◌≡◌, Result, Ok, Err}
use Rattle.fpm_routes.specs.declared.why.Unsaid.{Unsaid}
use Rattle.fpm_routes.specs.declared.changes.Change.{Change}
use Rattle.fpm_routes.specs.Changes.{Changing}

abbrev pub change_of : Change → Changing
change_of change = record { deed = change.deed; block = change.prefix; words = change.words.items }

-- what the code reads is what a message says
abbrev pub IsRead : Result Change Unsaid → Result Changing Unsaid → Type 0
IsRead (Ok change) read = read ≡ Ok (change_of change)
IsRead (Err reason) read = read ≡ Err reason
