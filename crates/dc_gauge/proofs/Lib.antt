mod Spacings
