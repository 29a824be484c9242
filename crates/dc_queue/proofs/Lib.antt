mod Windows
