-- What the text of examples/small.toml says, computed by its definition.
use Rattle.std.proofs.Common.{◌≡◌, Ok, refl}
use Rattle.std.specs.Str.{is_utf8, chars}
use Rattle.std.specs.Float.Numeral.{scan_numeral}
use lib.Utf8.{encode}
use Rattle.toml.specs.Parse.{after_element, key_equals, items, atom, val, header_key, expression, line, lines, skip_bom, parse_document}
use Rattle.toml.specs.Tables.{along_header, along_dots, at_key, define}
use Rattle.toml_parser.specs.Lexical.{skip_ws, skip_from}
use Rattle.toml_parser.specs.Strings.{special, body, one_line, quoted, simple_key, key_after}
use Rattle.toml_parser.specs.Numbers.{underscore_fits, decimal_number, plain_number, number, word_value, word_len, unquoted}
use Rattle.dc_toml.specs.Keys.{names_at, offsets_at, tables_at}
use Rattle.dc_toml.specs.Reading.{tables_of, read_parameter, read_stream, read_bus, read_router, read_label, read_output, tick_of, lists_of, members_of, tables_in, document_of}
use Rattle.dc_example.specs.Example.{example_text}
use Rattle.dc_example.proofs.Worked.{example_written}

pub reads : tables_of example_text ≡ Ok example_written
unfolding is_utf8 chars encode scan_numeral after_element key_equals items atom val header_key expression line lines skip_bom parse_document along_header along_dots at_key define skip_ws skip_from special body one_line quoted simple_key key_after underscore_fits decimal_number plain_number number word_value word_len unquoted names_at offsets_at tables_at read_parameter read_stream read_bus read_router read_label read_output tick_of lists_of members_of tables_in document_of
reads = refl
