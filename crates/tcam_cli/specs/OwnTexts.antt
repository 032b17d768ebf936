-- The texts that the program prints about itself.
use Rattle.std.specs.Prelude.{ℕ, ◌≡◌, Option, Some, None, List, [], ◌∷◌, ◌++◌, length, take, codes}
use Rattle.tcam_cli.specs.declared.own_texts.Topic.{Topic}
use Rattle.tcam_cli.specs.declared.own_texts.Topic.TheVariants as about

-- what is asked for: the help of a subcommand, or of the program where none is named; or name and version
pub data OwnText : Type 0 where
  HelpOn : (topic : Option Topic) → OwnText
  Version : OwnText

-- with what a help begins
abbrev pub help_title : Option Topic → List ℕ
help_title None = codes "tcam: "
help_title (Some about.Route) = codes "tcam route: "
help_title (Some about.Acl) = codes "tcam acl: "
help_title (Some about.Route6) = codes "tcam route6: "
help_title (Some about.Acl6) = codes "tcam acl6: "
help_title (Some about.Gen) = codes "tcam gen: "
help_title (Some about.Verify) = codes "tcam verify: "

-- the name and the version
unfoldable pub version_text : List ℕ
version_text = codes "tcam 0.2.0" ++ 10 ∷ []

-- The text is one of these. Of a help it is told whose it is, by its first words, and not what else it says.
abbrev pub IsOwnText : OwnText → List ℕ → Type 0
IsOwnText (HelpOn topic) text = take (length (help_title topic)) text ≡ help_title topic
IsOwnText Version text = text ≡ version_text
