-- Headings and readings of the program as plain data.
use Rattle.std.specs.Prelude.{map}
use Rattle.px_action_files.specs.Files.{HeadingSeen, alias_block, ignored_block, section_of_words, GivenSoFar}
use Rattle.px_action_files.specs.Meanings.{seen_section, seen_alias}
use Rattle.px_action_files.specs.declared.headings.BlockHeading.{BlockHeading}
use Rattle.px_action_files.specs.declared.headings.BlockHeading.TheVariants as heading
use Rattle.px_action_files.specs.declared.readings.FileReading.{FileReading}

abbrev pub seen_heading : BlockHeading → HeadingSeen
seen_heading heading.Aliases = alias_block
seen_heading heading.Ignored = ignored_block
seen_heading (heading.Section words) = section_of_words words.now

abbrev pub seen_reading : FileReading → GivenSoFar
seen_reading r = record { aliases_came = r.aliases_came; known = map seen_alias r.known; sections = map seen_section r.sections }
